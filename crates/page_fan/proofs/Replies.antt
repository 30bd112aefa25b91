-- Answers and replies of a door, while its count rises.
use Rattle.std.proofs.Common.{◌≡◌, ℕ, suc, ◌≤◌, List, [], ◌∷◌, ◌++◌, take, drop, arith, refl}
use Rattle.std.proofs.lemmas.List.Elements.{All-push}
use Rattle.page_store.specs.Count.{HasRisen}
use Rattle.page_store.specs.House.{House}
use Rattle.page_store.specs.declared.door.PutAnswer.{PutAnswer}
use Rattle.page_fan.specs.declared.stand.PutReply.{PutReply}
use Rattle.page_fan.specs.Groups.{IsAnswer, HasReplies}
use Rattle.page_fan.proofs.Answered.{OnPutFailed-weaken}

pub rise_later : (before mid now : ℕ) → mid ≤ now → HasRisen before mid → HasRisen before now
rise_later before mid now le h = record {
  later = omega (arith, le, h.later);
  by = λ few. omega (arith, le, h.by (omega (arith, few, le)));
}

rise_since : (before mid now : ℕ) → before ≤ mid → HasRisen mid now → HasRisen before now
rise_since before mid now le h = record {
  later = omega (arith, le, h.later);
  by = λ few. omega (arith, le, h.by few);
}

answer_weaken : (houses : List House) (provider : ℕ) (content : List ℕ) (before now before' now' : ℕ) (answer : PutAnswer) → (HasRisen before now → HasRisen before' now') → IsAnswer houses provider content before now answer → IsAnswer houses provider content before' now' answer
answer_weaken houses provider content before now before' now' answer f h = record {
  here = h.here;
  there = h.there;
  bytes = h.bytes;
  failed = OnPutFailed-weaken (HasRisen before now) (HasRisen before' now') f answer h.failed;
}

pub put_later : (houses : List House) (provider : ℕ) (content : List ℕ) (before mid now : ℕ) (answer : PutAnswer) → mid ≤ now → IsAnswer houses provider content before mid answer → IsAnswer houses provider content before now answer
put_later houses provider content before mid now answer le h = answer_weaken houses provider content before mid before now answer (rise_later before mid now le) h

put_since : (houses : List House) (provider : ℕ) (content : List ℕ) (before mid now : ℕ) (answer : PutAnswer) → before ≤ mid → IsAnswer houses provider content mid now answer → IsAnswer houses provider content before now answer
put_since houses provider content before mid now answer le h = answer_weaken houses provider content mid now before now answer (rise_since before mid now le) h

pub replies_later : (houses : List House) (page_size : ℕ) (buffer : List ℕ) (provider before mid now : ℕ) (tray : List PutReply) → mid ≤ now → HasReplies houses page_size buffer provider before mid tray → HasReplies houses page_size buffer provider before now tray
replies_later houses page_size buffer provider before mid now tray le h = record {
  kept = omega (arith, le, h.kept);
  each = λ k d l. put_later houses provider _ before mid now _ le (h.each k d l);
}

-- one reply more
pub replies_more : (houses : List House) (page_size : ℕ) (buffer : List ℕ) (provider before mid now : ℕ) (tray : List PutReply) (reply : PutReply) → mid ≤ now
    → IsAnswer houses provider (take page_size (drop reply.at buffer)) mid now reply.answer → HasReplies houses page_size buffer provider before mid tray
    → HasReplies houses page_size buffer provider before now (tray ++ reply ∷ [])
replies_more houses page_size buffer provider before mid now tray reply le answer h =
    let later = replies_later houses page_size buffer provider before mid now tray le h in
    record {
      kept = later.kept;
      each = All-push (λ (r : PutReply). IsAnswer houses provider (take page_size (drop r.at buffer)) before now r.answer) tray reply later.each (put_since houses provider _ before mid now reply.answer h.kept answer);
    }

-- the first reply was taken
pub replies_rest : (houses : List House) (page_size : ℕ) (buffer : List ℕ) (provider before now : ℕ) (reply : PutReply) (rest tray : List PutReply) → tray ≡ reply ∷ rest → HasReplies houses page_size buffer provider before now tray
    → IsAnswer houses provider (take page_size (drop reply.at buffer)) before now reply.answer × HasReplies houses page_size buffer provider before now rest
replies_rest houses page_size buffer provider before now reply rest tray is h =
    let whole = rw is at h in (
      whole.each 0 reply (omega arith),
      record { kept = whole.kept; each = λ k d l. whole.each (suc k) d (omega (arith, l)) },
    )

pub replies_dropped : (houses : List House) (page_size : ℕ) (buffer : List ℕ) (provider before now : ℕ) (tray : List PutReply) → HasReplies houses page_size buffer provider before now tray → HasReplies houses page_size buffer provider before now (drop 1 tray)
replies_dropped houses page_size buffer provider before now [] h = h
replies_dropped houses page_size buffer provider before now (reply ∷ rest) h = (replies_rest houses page_size buffer provider before now reply rest (reply ∷ rest) refl h).1
