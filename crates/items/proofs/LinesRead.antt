-- What a reader of lines answers, from the items that were taken off its line and its rest.
use Rattle.std.proofs.Common.{◌≡◌, ℕ, suc, add-one, ◌+◌, ◌<◌, false, List, [], ◌∷◌, ◌++◌, length, take, drop, drop-cons, slice_index, Option, Some, None, Result, Ok, Err, IfOk, OnOk, sym, ap, ◌∙◌, append_assoc, append-nil, take-append-drop}
use Rattle.std.specs.Option.{option_to_list}
use Rattle.items.specs.Items.{ItemStream, after_item, IsNextItem, IsEndOf}
use Rattle.items.specs.declared.ending.Ending.{Ending}
use Rattle.items.specs.declared.ending.Ending.TheVariants.{Clean, Last, Cut}
use Rattle.items.specs.Lines.{Lining, item_of, with_item, lined}
use Rattle.items.specs.Text.{IsWithout}
use Rattle.items.specs.BegunLine.{GoesOnAs, TakesFront, TakesItem, EndsLine}
use Rattle.items.proofs.LinesHeard.{lined_line, lined_last}

-- ---- bytes that are fed

-- bytes put behind the rest stand behind all that was fed
pub fed : {A E : Type 0} (f : Lining A) (r : Result (Unit {0}) E) (line rest rest' was piece : List ℕ) → line ++ rest ≡ was → OnOk r (rest' ≡ rest ++ piece)
    → OnOk r ((more : List ℕ) → lined f ((line ++ rest') ++ more) ≡ lined f (was ++ (piece ++ more)))
fed f (Ok u) line rest rest' was piece is h = λ more.
    ap (λ (l : List ℕ). lined f ((line ++ l) ++ more)) h
    ∙ (ap (λ (l : List ℕ). lined f (l ++ more)) (sym (append_assoc line rest piece))
    ∙ (ap (λ (l : List ℕ). lined f ((l ++ piece) ++ more)) is ∙ ap (λ (l : List ℕ). lined f l) (append_assoc was piece more)))
fed f (Err e) line rest rest' was piece is h = tt

-- bytes that the line took off the front stand in it
took : {A : Type 0} (f : Lining A) (line piece line' : List ℕ) (taken : ℕ) → TakesFront f line piece line' taken → (more : List ℕ) → lined f (line ++ (piece ++ more)) ≡ lined f (line' ++ (drop taken piece ++ more))
took f line piece line' taken t more =
    ap (λ (l : List ℕ). lined f (line ++ (l ++ more))) (sym (take-append-drop taken piece))
    ∙ ap (λ (l : List ℕ). lined f (line ++ l)) (append_assoc (take taken piece) (drop taken piece) more)
    ∙ ap (λ (l : List ℕ). lined f l) (sym (append_assoc line (take taken piece) (drop taken piece ++ more)))
    ∙ t.goes_on (drop taken piece ++ more)

-- the same where the line took the front straight from what is fed
pub fed_straight : {A E : Type 0} (f : Lining A) (r : Result (Unit {0}) E) (line rest line' rest' was piece : List ℕ) (taken : ℕ) → line ++ rest ≡ was → rest ≡ [] → TakesFront f line piece line' taken
    → OnOk r (rest' ≡ rest ++ drop taken piece) → OnOk r ((more : List ℕ) → lined f ((line' ++ rest') ++ more) ≡ lined f (was ++ (piece ++ more)))
fed_straight f (Ok u) line rest line' rest' was piece taken is none t h = λ more.
    ap (λ (l : List ℕ). lined f ((line' ++ l) ++ more)) (h ∙ ap (λ (l : List ℕ). l ++ drop taken piece) none)
    ∙ ap (λ (l : List ℕ). lined f l) (append_assoc line' (drop taken piece) more)
    ∙ sym (took f line piece line' taken t more)
    ∙ ap (λ (l : List ℕ). lined f (l ++ (piece ++ more))) (sym (append-nil line) ∙ ap (λ (l : List ℕ). line ++ l) (sym none) ∙ is)
fed_straight f (Err e) line rest line' rest' was piece taken is none t h = tt

-- ---- lines that are taken off

-- a line's end is taken off the rest behind it
pub line_ends : {A : Type 0} (f : Lining A) (line rest line' rest' : List ℕ) (count : ℕ) → TakesFront f line rest line' count → count < length rest → rest' ≡ drop (count + 1) rest
    → (more : List ℕ) → lined f (line ++ (rest ++ more)) ≡ with_item (item_of f line') (lined f (rest' ++ more))
line_ends f line rest line' rest' count t less cut more =
    let feed : slice_index rest count ≡ 10 = t.enough less in
    let behind : drop count rest ≡ 10 ∷ rest' =
    drop-cons rest count 0 less ∙ ap (λ (b : ℕ). b ∷ drop (suc count) rest) feed ∙ ap (λ (l : List ℕ). 10 ∷ l) (ap (λ (n : ℕ). drop n rest) (sym (add-one count)) ∙ sym cut) in
    took f line rest line' count t more
    ∙ ap (λ (l : List ℕ). lined f (line' ++ (l ++ more))) behind
    ∙ lined_line f line' (rest' ++ more) t.without

-- ---- the next item

-- where nothing is left of the rest, the line is what is left
left_is : (line piece more : List ℕ) → piece ≡ [] → (line ++ piece) ++ more ≡ line ++ more
left_is line piece more e = ap (λ (l : List ℕ). (line ++ l) ++ more) e ∙ ap (λ (l : List ℕ). l ++ more) (append-nil line)

no_whole : {A : Type 0} (f : Lining A) (line piece : List ℕ) → IsWithout 10 line → piece ≡ [] → (lined f ((line ++ piece) ++ [])).whole ≡ []
no_whole {A = A} f line piece without e =
    ap (λ (l : List ℕ). (lined f l).whole) (left_is line piece [] e ∙ append-nil line) ∙ ap (λ (s : ItemStream A). s.whole) (lined_last f line without)

pub next_is : {A E : Type 0} (f : Lining A) (Well : A → Type 0) (r : Result (Option A) E) (line piece line' piece' was : List ℕ) → line ++ piece ≡ was
    → IfOk r (TakesItem f Well line piece line' piece') → IfOk r (λ item. IsNextItem Well (λ more. lined f (was ++ more)) item (λ more. lined f ((line' ++ piece') ++ more)))
next_is f Well (Err x) line piece line' piece' was is h = tt
next_is f Well (Ok (Some item)) line piece line' piece' was is h = (
  λ more.
      ap (λ (l : List ℕ). lined f (l ++ more)) (sym is)
      ∙ (ap (λ (l : List ℕ). lined f l) (append_assoc line piece more)
      ∙ (h.0 more ∙ ap (λ (l : List ℕ). after_item item (lined f l)) (sym (append_assoc line' piece' more)))),
  h.1,
)
next_is f Well (Ok None) line piece line' piece' was is h = (
  λ more. ap (λ (l : List ℕ). lined f (l ++ more)) (sym is) ∙ (h.1 more ∙ ap (λ (l : List ℕ). lined f l) (sym (left_is line' piece' more h.0))),
  no_whole f line' piece' h.2 h.0,
)

-- ---- the end

-- a stream that ends with this line, which no line feed ends
abbrev ending_with : {A : Type 0} → Option A → ItemStream A
ending_with item = record { items = option_to_list item; whole = []; cut = false }

ends_with : {A : Type 0} (f : Lining A) (line piece line' was : List ℕ) → line ++ piece ≡ was → GoesOnAs f (line ++ piece) line' → IsWithout 10 line' → lined f (was ++ []) ≡ ending_with (item_of f line')
ends_with f line piece line' was is goes without =
    ap (λ (l : List ℕ). lined f (l ++ [])) (sym is)
    ∙ (goes [] ∙ (ap (λ (l : List ℕ). lined f l) (append-nil line') ∙ lined_last f line' without))

pub ends_clean : {A : Type 0} (f : Lining A) (Well : A → Type 0) (line piece line' was : List ℕ) → line ++ piece ≡ was → GoesOnAs f (line ++ piece) line' → IsWithout 10 line' → item_of f line' ≡ None
    → IsEndOf Well (λ more. lined f (was ++ more)) Clean
ends_clean {A = A} f Well line piece line' was is goes without none =
    let e = ends_with f line piece line' was is goes without ∙ ap (λ (o : Option A). ending_with o) none in
    (ap (λ (s : ItemStream A). s.items) e ∙ sym (ap (λ (s : ItemStream A). s.whole) e), ap (λ (s : ItemStream A). s.cut) e)

pub ends_last : {A : Type 0} (f : Lining A) (Well : A → Type 0) (line piece line' was : List ℕ) (item : A) → line ++ piece ≡ was → GoesOnAs f (line ++ piece) line' → IsWithout 10 line' → item_of f line' ≡ Some item → Well item
    → IsEndOf Well (λ more. lined f (was ++ more)) (Last item)
ends_last {A = A} f Well line piece line' was item is goes without some well =
    let e = ends_with f line piece line' was is goes without ∙ ap (λ (o : Option A). ending_with o) some in (
      ap (λ (s : ItemStream A). s.items) e ∙ sym (ap (λ (s : ItemStream A). s.whole ++ item ∷ []) e),
      ap (λ (s : ItemStream A). s.cut) e,
      well,
    )

pub ends_by : {A E : Type 0} (f : Lining A) (Well : A → Type 0) (r : Result (Ending A) E) (line piece line' was : List ℕ) → line ++ piece ≡ was → GoesOnAs f (line ++ piece) line' → IsWithout 10 line' → IfOk r (EndsLine f Well line')
    → IfOk r (λ ending. IsEndOf Well (λ more. lined f (was ++ more)) ending)
ends_by f Well (Ok Clean) line piece line' was is goes without h = ends_clean f Well line piece line' was is goes without h
ends_by f Well (Ok (Last item)) line piece line' was is goes without h = ends_last f Well line piece line' was item is goes without h.0 h.1
ends_by f Well (Ok Cut) line piece line' was is goes without h = absurd h
ends_by f Well (Err e) line piece line' was is goes without h = tt
