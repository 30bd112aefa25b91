-- Looks one after another.
use Rattle.std.proofs.Common.{◌≡◌, ℕ, List, [], ◌∷◌, ◌++◌, ap, ◌∙◌, append_assoc}
use Rattle.blob_model.specs.Answer.{answer}
use Rattle.blob_model.specs.History.{AllOther, store_of}
use Rattle.blob_model.specs.declared.call.Call.{Call}
use Rattle.blob_model.specs.declared.call.Event.{Event}
use Rattle.request_form.specs.declared.form.Reply.{Reply}
use Rattle.request_form.specs.Replies.{reply_of}
use Rattle.request_form.specs.Session.{Session, outcome_at, sees}
use Rattle.request_form.specs.Answers.{LookAnswer}
use Rattle.request_form.specs.Laws.{LooksJoin}

pub other-append : (caller : ℕ) (xs ys : List Event) → AllOther caller xs → AllOther caller ys → AllOther caller (xs ++ ys)
other-append caller [] ys a b = b
other-append caller (x ∷ xs) ys a b = (a.0, other-append caller xs ys a.1 b)

-- what is answered after one gap, from a session that has seen another
module _ (s : Session) (call : Call) (others : List Event) where
  abbrev seen_then : List Event → Reply
  seen_then seen = reply_of (answer (store_of s.fixed.limits seen) s.caller call).1

  joined : (first reply : Reply) (earlier : Call) (mid s' : Session) → AllOther s.caller others → mid ≡ sees s others → LookAnswer AllOther mid call reply s' → LookAnswer AllOther s call reply s'
  joined first reply earlier mid s' gap is b =
      let caller : mid.caller ≡ s.caller = ap (λ (x : Session). x.caller) is in
      record {
        others = others ++ b.others;
        is_gap = other-append s.caller others b.others gap (let next : AllOther s.caller b.others = rw (← caller) b.is_gap in next);
        said = b.said ∙ (ap (λ (x : Session). reply_of (outcome_at x b.others call)) is ∙ ap seen_then (append_assoc s.seen others b.others));
        seen = b.seen ∙ (ap (λ (x : Session). sees x b.others) is
            ∙ ap (λ (l : List Event). record { fixed = s.fixed; caller = s.caller; seen = l; tickets = s.tickets; next = s.next; limit = s.limit }) (append_assoc s.seen others b.others));
      }

pub looks_joined : LooksJoin
looks_joined s earlier call first reply mid s' a b = joined s call a.others first reply earlier mid s' a.is_gap a.seen b
