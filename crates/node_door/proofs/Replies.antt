-- Replies of a node, by their frames.
use Rattle.std.proofs.Common.{◌≡◌, ◌∙◌, ℕ, ◌+◌, ◌^◌, ◌<◌, ◌≤◌, ◌==◌, ◌&&◌, ◌||◌, nat_le, Bool, cond, true, false, true≢false, List, [], ◌∷◌, ◌++◌, length, take, drop, get_or, slice_index, refl, sym, ap, arith, append-nil, length-append}
use Rattle.std.proofs.lemmas.Bool.Decides.{nat_tests}
use Rattle.byteorder.specs.Endian.{big_bytes}
use Rattle.items.specs.Framing.{is_whole}
use Rattle.items.specs.BegunFrame.{frame_part}
use Rattle.items.proofs.Numbers.{bytes_again}
use Rattle.items.proofs.FrameBegun.{frame_part-length, frame_part-number, frame_part-append, frame_part-drop, opened_whole}
use Rattle.frame_wire.specs.Requests.{number_at}
use Rattle.frame_wire.specs.Frames.{max_frame}
use Rattle.frame_wire.specs.Said.{field, frame_of}
use Rattle.page_node.specs.declared.form.NodeReply.TheVariants as Replies
use Rattle.page_node.specs.Said.{said}
use Rattle.page_node.specs.Grammar.{is_refusal, is_reply_of, may_have, is_reply, is_reply_frame, IsOutside}
use Rattle.node_door.specs.Link.{IsOther}
use Rattle.frame_wire.proofs.RequestLemmas.{at_least}
use Rattle.node_door.proofs.Looping.{other_test}

pub same_test : (m n : ℕ) → m ≡ n → (m == n) ≡ true
same_test m n e = grind (arith, nat_tests, e)

pub is_same : (m n : ℕ) → (m == n) ≡ true → m ≡ n
is_same m n e = grind (arith, nat_tests, e)

-- ---- frames that are replies

pub reply_frame : (n : ℕ) (bytes : List ℕ) → n ≤ max_frame → length bytes ≡ n → is_reply bytes ≡ true → is_reply_frame (frame_part n bytes) ≡ true
reply_frame n bytes few lengths reply =
    let fits : n < 2 ^ 32 = omega arith in
    rw (opened_whole n bytes fits lengths, frame_part-number n bytes fits, at_least n max_frame few, frame_part-drop n bytes, reply) refl

pub no_reply_frame : (n : ℕ) (bytes : List ℕ) → n < 2 ^ 32 → (length bytes ≡ n → n ≤ max_frame → is_reply bytes ≡ false) → is_reply_frame (frame_part n bytes) ≡ false
no_reply_frame n bytes fits none = go (is_whole (frame_part n bytes)) refl
  where
    lengths_by : is_whole (frame_part n bytes) ≡ true → length bytes ≡ n
    lengths_by e =
        let l = frame_part-length n bytes in
        let k = frame_part-number n bytes fits in
        grind (arith, nat_tests, l, k, e)

    few_by : (b : Bool) → nat_le n max_frame ≡ b → is_whole (frame_part n bytes) ≡ true → b && is_reply bytes ≡ false
    few_by true e whole = none (lengths_by whole) (grind (arith, nat_tests, e))
    few_by false e whole = refl

    go : (b : Bool) → is_whole (frame_part n bytes) ≡ b → is_reply_frame (frame_part n bytes) ≡ false
    go true e = rw (e, frame_part-number n bytes fits, frame_part-drop n bytes) (few_by (nat_le n max_frame) refl e)
    go false e = rw e refl

-- a frame that begins so is no reply
pub outside_by : (n operation : ℕ) → n < 2 ^ 32 → ((fields : List ℕ) → length fields + 1 ≡ n → n ≤ max_frame → is_reply_of operation fields ≡ false) → IsOutside (frame_part n (operation ∷ []))
outside_by n operation fits none more =
    ap is_reply_frame (frame_part-append n (operation ∷ []) more)
    ∙ no_reply_frame n (operation ∷ more) fits (λ lengths few. none more (omega arith) few)

-- and one that is whole
pub outside_whole : (n operation : ℕ) (fields : List ℕ) → n < 2 ^ 32 → length fields + 1 ≡ n → is_reply_of operation fields ≡ false → IsOutside (frame_part n (operation ∷ fields))
outside_whole n operation fields fits lengths none [] =
    ap is_reply_frame (append-nil (frame_part n (operation ∷ fields))) ∙ no_reply_frame n (operation ∷ fields) fits (λ _ _. none)
outside_whole n operation fields fits lengths none (b ∷ more) =
    ap is_reply_frame (frame_part-append n (operation ∷ fields) (b ∷ more))
    ∙ no_reply_frame n (operation ∷ (fields ++ b ∷ more)) fits (λ long _. absurd (let l = length-append fields (b ∷ more) in omega arith))

-- ---- which operations have how many bytes

no_refusal : (number count : ℕ) → (count == 8 || count == 16 || count == 32) ≡ false → is_refusal number count ≡ false
no_refusal number count h = go (count == 8) (count == 16) (count == 32) h
  where
    go : (a b d : Bool) → (a || b || d) ≡ false → cond a (number == 9 || number == 10 || number == 19) (cond b (number == 11 || number == 18 || number == 23) (cond d (number == 24) false)) ≡ false
    go true b d h = absurd (true≢false h)
    go false true d h = absurd (true≢false h)
    go false false true h = absurd (true≢false h)
    go false false false h = refl

pub may_not : (operation : ℕ) (fields : List ℕ) → may_have operation (length fields) ≡ false → is_reply_of operation fields ≡ false
may_not operation fields h = go (operation == 160) (operation == 161) (operation == 141) (operation == 255) h
  where
    n : ℕ
    n = length fields

    go : (a b d e : Bool) → cond a (n == 8) (cond b true (cond d (n == 0) (cond e (n == 8 || n == 16 || n == 32) false))) ≡ false
        → cond a (n == 8) (cond b true (cond d (n == 0) (cond e (is_refusal (number_at 0 fields) n) false))) ≡ false
    go true b d e h = h
    go false true d e h = absurd (true≢false h)
    go false false true e h = h
    go false false false true h = no_refusal (number_at 0 fields) n h
    go false false false false h = refl

-- all but given bytes are few
pub has_few : (operation count : ℕ) → may_have operation count ≡ true → ((operation ≡ 161) → ⊥) → count ≤ 32
has_few operation count h other = go (operation == 160) (operation == 161) refl (operation == 141) (operation == 255) h
  where
    three : (a b d : Bool) → (count == 8) ≡ a → (count == 16) ≡ b → (count == 32) ≡ d → (a || b || d) ≡ true → count ≤ 32
    three true b d ea eb ed h = let e = is_same count 8 ea in omega arith
    three false true d ea eb ed h = let e = is_same count 16 eb in omega arith
    three false false true ea eb ed h = let e = is_same count 32 ed in omega arith
    three false false false ea eb ed h = absurd (true≢false (sym h))

    go : (a b : Bool) → (operation == 161) ≡ b → (d e : Bool) → cond a (count == 8) (cond b true (cond d (count == 0) (cond e (count == 8 || count == 16 || count == 32) false))) ≡ true → count ≤ 32
    go true b eb d e h = let k = is_same count 8 h in omega arith
    go false true eb d e h = absurd (other (is_same operation 161 eb))
    go false false eb true e h = let k = is_same count 0 h in omega arith
    go false false eb false true h = three (count == 8) (count == 16) (count == 32) refl refl refl h
    go false false eb false false h = absurd (true≢false (sym h))

-- ---- whole replies

frame_of-is : (bytes : List ℕ) → frame_part (length bytes) bytes ≡ frame_of bytes
unfolding frame_of frame_part
frame_of-is bytes = refl

frame_of-drop : (bytes : List ℕ) → drop 4 (frame_of bytes) ≡ bytes
unfolding frame_of
frame_of-drop bytes = refl

-- a frame's bytes, and what they begin with
pub same_bytes : (n : ℕ) (bytes other : List ℕ) → frame_part n bytes ≡ frame_of other → bytes ≡ other
same_bytes n bytes other e = sym (frame_part-drop n bytes) ∙ ap (λ (l : List ℕ). drop 4 l) e ∙ frame_of-drop other

pub same_operation : (n operation operation' : ℕ) (fields fields' : List ℕ) → frame_part n (operation ∷ fields) ≡ frame_of (operation' ∷ fields') → operation ≡ operation'
same_operation n operation operation' fields fields' e = ap (λ (l : List ℕ). get_or l 0 0) (same_bytes n (operation ∷ fields) (operation' ∷ fields') e)

pub same_fields : (n operation operation' : ℕ) (fields fields' : List ℕ) → frame_part n (operation ∷ fields) ≡ frame_of (operation' ∷ fields') → fields ≡ fields'
same_fields n operation operation' fields fields' e = ap (λ (l : List ℕ). drop 1 l) (same_bytes n (operation ∷ fields) (operation' ∷ fields') e)

pub whole_is_frame : (operation : ℕ) (fields : List ℕ) → frame_part (1 + length fields) (operation ∷ fields) ≡ frame_of (operation ∷ fields)
whole_is_frame operation fields = ap (λ (n : ℕ). frame_part n (operation ∷ fields)) (omega arith) ∙ frame_of-is (operation ∷ fields)

-- the given bytes, and others
pub given_tells : (count : ℕ) (got want : List ℕ) → count < max_frame → length got ≡ count → got ≡ want
    → (frame_part (1 + count) (161 ∷ []) ++ got ≡ said (Replies.Given want)) × (is_reply_frame (frame_part (1 + count) (161 ∷ []) ++ got) ≡ true)
given_tells count got want few lengths same = (
  joined
      ∙ ap (λ (n : ℕ). frame_part (1 + n) (161 ∷ got)) (sym lengths)
      ∙ whole_is_frame 161 got
      ∙ ap (λ (l : List ℕ). frame_of (161 ∷ l)) same,
  ap is_reply_frame joined ∙ reply_frame (1 + count) (161 ∷ got) (omega arith) (omega arith) refl,
)
  where
    joined : frame_part (1 + count) (161 ∷ []) ++ got ≡ frame_part (1 + count) (161 ∷ got)
    joined = frame_part-append (1 + count) (161 ∷ []) got

pub given_other : (count : ℕ) (got want : List ℕ) → count < max_frame → length got ≡ count → ((got ≡ want) → ⊥) → IsOther want (frame_part (1 + count) (161 ∷ []) ++ got)
given_other count got want few lengths other = record {
  reply = ap is_reply_frame joined ∙ reply_frame (1 + count) (161 ∷ got) (omega arith) (omega arith) refl;
  not_kept = λ id e. absurd (let o = same_operation (1 + count) 161 160 got (field id) (sym joined ∙ e) in omega arith);
  not_wanted = λ e. other (same_fields (1 + count) 161 161 got want (sym joined ∙ e));
  not_memory = λ e. absurd (let o = same_operation (1 + count) 161 255 got (field 9) (sym joined ∙ e) in omega arith);
}
  where
    joined : frame_part (1 + count) (161 ∷ []) ++ got ≡ frame_part (1 + count) (161 ∷ got)
    joined = frame_part-append (1 + count) (161 ∷ []) got

-- no bytes behind the operation of the last reply
pub bye_other : (fields want : List ℕ) → length fields ≡ 0 → IsOther want (frame_part (1 + length fields) (141 ∷ fields))
bye_other fields want none = record {
  reply = reply_frame (1 + length fields) (141 ∷ fields) (omega arith) (omega arith) (same_test (length fields) 0 none);
  not_kept = λ id e. absurd (let o = same_operation (1 + length fields) 141 160 fields (field id) e in omega arith);
  not_wanted = λ e. absurd (let o = same_operation (1 + length fields) 141 161 fields want e in omega arith);
  not_memory = λ e. absurd (let o = same_operation (1 + length fields) 141 255 fields (field 9) e in omega arith);
}

-- a refusal that isn't want of memory
pub refusal_other : (fields want : List ℕ) → length fields ≤ 32 → is_refusal (number_at 0 fields) (length fields) ≡ true → ((fields ≡ field 9) → ⊥) → IsOther want (frame_part (1 + length fields) (255 ∷ fields))
refusal_other fields want few refusal other = record {
  reply = reply_frame (1 + length fields) (255 ∷ fields) (omega arith) (omega arith) refusal;
  not_kept = λ id e. absurd (let o = same_operation (1 + length fields) 255 160 fields (field id) e in omega arith);
  not_wanted = λ e. absurd (let o = same_operation (1 + length fields) 255 161 fields want e in omega arith);
  not_memory = λ e. other (same_fields (1 + length fields) 255 255 fields (field 9) e);
}

nine : number_at 0 (field 9) ≡ 9
unfolding field
nine = refl

-- the number of other bytes is another one
pub not_nine : (fields : List ℕ) → ((number_at 0 fields ≡ 9) → ⊥) → (fields ≡ field 9) → ⊥
not_nine fields other e = other (ap (λ (l : List ℕ). number_at 0 l) e ∙ nine)

-- 8 bytes with the number 9 are that field
pub is_nine : (fields : List ℕ) → length fields ≡ 8 → ((i : ℕ) → slice_index fields i < 256) → number_at 0 fields ≡ 9 → field 9 ≡ fields
unfolding field
is_nine fields lengths bytes number = ap (λ (n : ℕ). big_bytes 8 n) (sym number) ∙ bytes_again 8 fields lengths bytes

-- a refusal with that number has 8 bytes
pub nine_has : (number count : ℕ) → is_refusal number count ≡ true → number ≡ 9 → count ≡ 8
nine_has number count h is = go (count == 8) refl (count == 16) (count == 32) h
  where
    not : (k : ℕ) → ((k ≡ 9) → ⊥) → (number == k) ≡ false
    not k other = other_test number k (λ e. other (sym e ∙ is))

    go : (a : Bool) → (count == 8) ≡ a → (b d : Bool) → cond a (number == 9 || number == 10 || number == 19) (cond b (number == 11 || number == 18 || number == 23) (cond d (number == 24) false)) ≡ true → count ≡ 8
    go true ea b d h = is_same count 8 ea
    go false ea true d h =
        absurd (true≢false (sym h ∙ rw (not 11 (λ e. omega arith), not 18 (λ e. omega arith), not 23 (λ e. omega arith)) refl))
    go false ea false true h = absurd (true≢false (sym h ∙ not 24 (λ e. omega arith)))
    go false ea false false h = absurd (true≢false (sym h))

-- a refusal's number, and no other, is nine
pub refusal_outside : (fields : List ℕ) → length fields ≤ 32 → is_refusal (number_at 0 fields) (length fields) ≡ false → IsOutside (frame_part (1 + length fields) (255 ∷ fields))
refusal_outside fields few none = outside_whole (1 + length fields) 255 fields (omega arith) (omega arith) none

pub short_refusal : (number count : ℕ) → count < 8 → is_refusal number count ≡ false
short_refusal number count few = no_refusal number count (rw (other_test count 8 (λ e. omega arith), other_test count 16 (λ e. omega arith), other_test count 32 (λ e. omega arith)) refl)

-- the first five bytes of a frame
pub head_is : (length' : ℕ) (head : List ℕ) → length head ≡ 5 → frame_part length' [] ≡ take 4 head → head ≡ frame_part length' (get_or head 4 0 ∷ [])
head_is length' (a ∷ b ∷ d ∷ e ∷ f ∷ []) five front = ap (λ (l : List ℕ). l ++ f ∷ []) (sym front) ∙ frame_part-append length' [] (f ∷ [])
head_is length' [] five front = absurd (omega arith)
head_is length' (a ∷ []) five front = absurd (omega arith)
head_is length' (a ∷ b ∷ []) five front = absurd (omega arith)
head_is length' (a ∷ b ∷ d ∷ []) five front = absurd (omega arith)
head_is length' (a ∷ b ∷ d ∷ e ∷ []) five front = absurd (omega arith)
head_is length' (a ∷ b ∷ d ∷ e ∷ f ∷ g ∷ more) five front = absurd (omega arith)

-- what no reply tells
pub told_outside : (operation : ℕ) (fields : List ℕ) → length fields ≤ 32 → ((operation ≡ 161) → ⊥) → ((operation ≡ 160) → (length fields ≡ 8) → ⊥) → ((operation ≡ 141) → (length fields ≡ 0) → ⊥) → ((operation ≡ 255) → ⊥)
    → IsOutside (frame_part (1 + length fields) (operation ∷ fields))
told_outside operation fields few not_given not_kept not_bye not_refusal =
    outside_whole (1 + length fields) operation fields (omega arith) (omega arith) (go (operation == 160) refl (operation == 161) refl (operation == 141) refl (operation == 255) refl)
  where
    n : ℕ
    n = length fields

    go : (a : Bool) → (operation == 160) ≡ a → (b : Bool) → (operation == 161) ≡ b → (d : Bool) → (operation == 141) ≡ d → (e : Bool) → (operation == 255) ≡ e
        → cond a (n == 8) (cond b true (cond d (n == 0) (cond e (is_refusal (number_at 0 fields) n) false))) ≡ false
    go true ea b eb d ed e ee = other_test n 8 (λ k. not_kept (is_same operation 160 ea) k)
    go false ea true eb d ed e ee = absurd (not_given (is_same operation 161 eb))
    go false ea false eb true ed e ee = other_test n 0 (λ k. not_bye (is_same operation 141 ed) k)
    go false ea false eb false ed true ee = absurd (not_refusal (is_same operation 255 ee))
    go false ea false eb false ed false ee = refl
