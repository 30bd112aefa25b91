-- What a reader of frames answers, from the bytes that its frame took.
use Rattle.std.proofs.Common.{◌≡◌, ◌∙◌, ℕ, ◌+◌, ◌<◌, ◌==◌, not, Bool, true, false, List, [], ◌∷◌, ◌++◌, length, take, drop, Option, Some, None, Result, Ok, Err, OnOk, refl, sym, ap, subst, arith, append_assoc, append-nil, length-append, take-append-drop, drop_of_length-le, inl, inr}
use Rattle.std.proofs.lemmas.Bool.{cases_lt}
use Rattle.std.proofs.lemmas.Bool.Decides.{nat_tests}
use Rattle.items.specs.Items.{ItemStream, after_item, IsNextItem, IsEndOf}
use Rattle.items.specs.declared.ending.Ending.TheVariants.{Cut}
use Rattle.items.specs.Framing.{Framing, framed}
use Rattle.items.specs.Taken.{IsOpen, Takes, Gives}
use Rattle.items.proofs.FramesHeard.{open_on, cut_where}
use Rattle.items.proofs.FrameTaken.{not_zero, is_zero}

-- bytes put behind the rest stand behind all that was fed
pub fed : {A E : Type 0} (f : Framing A) (r : Result (Unit {0}) E) (frame rest rest' was piece : List ℕ) → frame ++ rest ≡ was → OnOk r (rest' ≡ rest ++ piece)
    → OnOk r ((more : List ℕ) → framed f ((frame ++ rest') ++ more) ≡ framed f (was ++ (piece ++ more)))
fed f (Ok u) frame rest rest' was piece is h = λ more.
    ap (λ (l : List ℕ). framed f ((frame ++ l) ++ more)) h
    ∙ ap (λ (l : List ℕ). framed f (l ++ more)) (sym (append_assoc frame rest piece))
    ∙ ap (λ (l : List ℕ). framed f ((l ++ piece) ++ more)) is ∙ ap (λ (l : List ℕ). framed f l) (append_assoc was piece more)
fed f (Err e) frame rest rest' was piece is h = tt

-- bytes that the frame took f off the front stand in it
took : {A : Type 0} (f : Framing A) (frame piece frame' : List ℕ) (taken : ℕ) → Takes f frame piece frame' taken → (more : List ℕ) → framed f (frame ++ (piece ++ more)) ≡ framed f (frame' ++ (drop taken piece ++ more))
took f frame piece frame' taken t more =
    ap (λ (l : List ℕ). framed f (frame ++ (l ++ more))) (sym (take-append-drop taken piece))
    ∙ ap (λ (l : List ℕ). framed f (frame ++ l)) (append_assoc (take taken piece) (drop taken piece) more)
    ∙ ap (λ (l : List ℕ). framed f l) (sym (append_assoc frame (take taken piece) (drop taken piece ++ more)))
    ∙ t.goes_on (drop taken piece ++ more)

-- the same where the frame took f the front straight from what is fed
pub fed_straight : {A E : Type 0} (f : Framing A) (r : Result (Unit {0}) E) (frame rest frame' rest' was piece : List ℕ) (taken : ℕ) → frame ++ rest ≡ was → rest ≡ [] → Takes f frame piece frame' taken
    → OnOk r (rest' ≡ rest ++ drop taken piece) → OnOk r ((more : List ℕ) → framed f ((frame' ++ rest') ++ more) ≡ framed f (was ++ (piece ++ more)))
fed_straight f (Ok u) frame rest frame' rest' was piece taken is none t h = λ more.
    ap (λ (l : List ℕ). framed f ((frame' ++ l) ++ more)) (h ∙ ap (λ (l : List ℕ). l ++ drop taken piece) none)
    ∙ ap (λ (l : List ℕ). framed f l) (append_assoc frame' (drop taken piece) more)
    ∙ sym (took f frame piece frame' taken t more)
    ∙ ap (λ (l : List ℕ). framed f (l ++ (piece ++ more))) (sym (append-nil frame) ∙ ap (λ (l : List ℕ). frame ++ l) (sym none) ∙ is)
fed_straight f (Err e) frame rest frame' rest' was piece taken is none t h = tt

no_whole : {A : Type 0} (f : Framing A) (bytes : List ℕ) → IsOpen bytes → (framed f (bytes ++ [])).whole ≡ []
no_whole {A = A} f bytes h = ap (λ (s : ItemStream A). s.whole) (open_on f [] bytes [] h)

-- the next item, or none where only a part of a frame is left
pub next_is : {A : Type 0} (f : Framing A) (Well : A → Type 0) (item : Option A) (frame rest frame' rest' last was : List ℕ) (taken : ℕ) → frame ++ rest ≡ was → Takes f frame rest frame' taken → rest' ≡ drop taken rest → Gives f Well frame' last item
    → IsNextItem Well (λ more. framed f (was ++ more)) item (λ more. framed f ((last ++ rest') ++ more))
next_is f Well (Some item) frame rest frame' rest' last was taken is t cut gives = (
  λ more.
      ap (λ (l : List ℕ). framed f (l ++ more)) (sym is)
      ∙ ap (λ (l : List ℕ). framed f l) (append_assoc frame rest more)
      ∙ took f frame rest frame' taken t more
      ∙ gives.0 (drop taken rest ++ more)
      ∙ ap (λ (l : List ℕ). after_item item (framed f (l ++ more))) (sym cut)
      ∙ ap (λ (l : List ℕ). after_item item (framed f ((l ++ rest') ++ more))) (sym gives.1),
  gives.2,
)
next_is f Well None frame rest frame' rest' last was taken is t cut gives = (
  λ more.
      ap (λ (l : List ℕ). framed f (l ++ more)) (sym is)
      ∙ ap (λ (l : List ℕ). framed f l) (append_assoc frame rest more)
      ∙ took f frame rest frame' taken t more
      ∙ ap (λ (l : List ℕ). framed f l) (sym (append_assoc frame' (drop taken rest) more))
      ∙ ap (λ (l : List ℕ). framed f ((frame' ++ l) ++ more)) (sym cut)
      ∙ ap (λ (l : List ℕ). framed f ((l ++ rest') ++ more)) (sym gives.1),
  no_whole f (last ++ rest') (subst IsOpen (sym (ap (λ (l : List ℕ). l ++ rest') gives.1 ∙ ap (λ (l : List ℕ). frame' ++ l) (cut ∙ all) ∙ append-nil frame')) gives.0),
)
  where
    all : drop taken rest ≡ []
    all = elim (cases_lt taken (length rest)) [
      | inl less ↦ absurd (t.enough less gives.0)
      | inr most ↦ drop_of_length-le rest most
    ]

-- ---- the end

ends_in : {A : Type 0} (f : Framing A) (Well : A → Type 0) (frame rest was : List ℕ) → frame ++ rest ≡ was → (framed f (was ++ [])).whole ≡ [] → 0 < length frame + length rest → IsEndOf Well (λ more. framed f (was ++ more)) Cut
ends_in f Well frame rest was is none there =
    let joined : length was ≡ length frame + length rest = ap (λ (l : List ℕ). length l) (sym is) ∙ length-append frame rest in
    cut_where f [] (was ++ []) none ∙ ap (λ (l : List ℕ). not (length l == 0)) (append-nil was) ∙ ap not (some_test (length was) (omega arith))
  where
    some_test : (n : ℕ) → 0 < n → (n == 0) ≡ false
    some_test n h = grind (arith, nat_tests, h)

pub ends_cut : {A : Type 0} (f : Framing A) (Well : A → Type 0) (frame rest was : List ℕ) → frame ++ rest ≡ was → (framed f (was ++ [])).whole ≡ [] → (length frame == 0) ≡ false → IsEndOf Well (λ more. framed f (was ++ more)) Cut
ends_cut f Well frame rest was is none there = ends_in f Well frame rest was is none (let more = not_zero (length frame) there in omega arith)

pub ends_cut_behind : {A : Type 0} (f : Framing A) (Well : A → Type 0) (frame rest was : List ℕ) → frame ++ rest ≡ was → (framed f (was ++ [])).whole ≡ [] → (length rest == 0) ≡ false → IsEndOf Well (λ more. framed f (was ++ more)) Cut
ends_cut_behind f Well frame rest was is none there = ends_in f Well frame rest was is none (let more = not_zero (length rest) there in omega arith)

pub none_left : (slice rest : List ℕ) (test : Bool) → slice ≡ rest → test ≡ (length slice == 0) → test ≡ true → rest ≡ []
none_left slice [] test same is none = refl
none_left slice (b ∷ rest) test same is none = absurd (omega (arith, is_zero (length (b ∷ rest)) (ap (λ (l : List ℕ). length l == 0) (sym same) ∙ sym is ∙ none)))

-- the same bytes were added
pub as_added : {E : Type 0} (r : Result (Unit {0}) E) (new rest slice piece : List ℕ) → slice ≡ piece → OnOk r (new ≡ rest ++ slice) → OnOk r (new ≡ rest ++ piece)
as_added (Ok u) new rest slice piece same h = h ∙ ap (λ (l : List ℕ). rest ++ l) same
as_added (Err e) new rest slice piece same h = tt
