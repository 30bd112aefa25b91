-- The front of a hello, and what is known of a stream behind it.
use Rattle.std.proofs.Common.{◌≡◌, ◌∙◌, ℕ, zero, suc, ◌+◌, ◌-◌, ◌<◌, ◌≤◌, ◌==◌, min, not, Bool, true, false, List, [], ◌++◌, length, take, drop, take-add, None, Result, Ok, Err, OnOk, refl, sym, ap, subst, arith, append_assoc, take-append-drop}
use Rattle.std.specs.Str.{bytes_eq}
use Rattle.std.proofs.lemmas.Bool.{false≢true}
use Rattle.std.proofs.lemmas.Slice.Eq.{bytes_eq-Decides}
use Rattle.std.proofs.lemmas.List.{take_all, take-take, take-append-le, drop-take, drop_at, length-take-le}
use Rattle.items.specs.Items.{after_item, IsFed}
use Rattle.request_form.specs.Stream.{Stream, IsNext}
use Rattle.request_form.specs.declared.form.Heard.TheVariants.{Asked}
use Rattle.request_form.specs.declared.form.Request.TheVariants.{Hello}
use Rattle.items.specs.Framing.{framed}
use Rattle.frame_wire.specs.Frames.{hello, begins_with_hello, heard, request_frames, second_frames}
use Rattle.frame_wire.specs.Fed.{heard_by, fed_by, IsSpoken, SpeaksAs}
use Rattle.frame_wire.specs.declared.spoken.Spoken.{Spoken}
use Rattle.frame_wire.specs.declared.spoken.Spoken.TheVariants.{Opening, First, Second}

-- what the front of a hello says alone
pub opening_is : (count : ℕ) → count < 13 → heard (take count hello ++ []) ≡ record { items = []; whole = []; cut = not (count == 0) }
opening_is zero h = refl
opening_is (suc zero) h = refl
opening_is (suc (suc zero)) h = refl
opening_is (suc (suc (suc zero))) h = refl
opening_is (suc (suc (suc (suc zero)))) h = refl
opening_is (suc (suc (suc (suc (suc zero))))) h = refl
opening_is (suc (suc (suc (suc (suc (suc zero)))))) h = refl
opening_is (suc (suc (suc (suc (suc (suc (suc zero))))))) h = refl
opening_is (suc (suc (suc (suc (suc (suc (suc (suc zero)))))))) h = refl
opening_is (suc (suc (suc (suc (suc (suc (suc (suc (suc zero))))))))) h = refl
opening_is (suc (suc (suc (suc (suc (suc (suc (suc (suc (suc zero)))))))))) h = refl
opening_is (suc (suc (suc (suc (suc (suc (suc (suc (suc (suc (suc zero))))))))))) h = refl
opening_is (suc (suc (suc (suc (suc (suc (suc (suc (suc (suc (suc (suc zero)))))))))))) h = refl
opening_is (suc (suc (suc (suc (suc (suc (suc (suc (suc (suc (suc (suc (suc n))))))))))))) h = absurd (omega arith)

pub opening_fits : (spoken : Spoken) (count : ℕ) → spoken ≡ Opening count → IsSpoken spoken → count < 13
opening_fits spoken count is well = subst IsSpoken is well

-- where only the front of a hello has come, there is no item
pub opening_next : (spoken : Spoken) (count : ℕ) → spoken ≡ Opening count → IsSpoken spoken → IsNext (heard_by (fed_by spoken)) None (heard_by (fed_by spoken))
opening_next spoken count is well = (
  λ more. refl,
  ap (λ (s : Spoken). (heard_by (fed_by s) []).whole) is ∙ ap (λ (s : Stream). s.whole) (opening_is count (opening_fits spoken count is well)),
)

-- a test that was turned round
pub not_back : (b want : Bool) → not b ≡ not want → b ≡ want
not_back true true e = refl
not_back true false e = sym e
not_back false true e = sym e
not_back false false e = refl

module _ (count next : ℕ) (piece : List ℕ) (front : count < 13) (most : next ≡ min (length piece) (13 - count)) where
  -- ---- other bytes than those of a hello

  -- what stands behind the front of a hello, as far as the hello goes
  hello_goes : (rest : List ℕ) → take 13 (take count hello ++ (piece ++ rest)) ≡ hello → take next piece ≡ take next (drop count hello)
  hello_goes rest is =
      let whole : List ℕ = take count hello ++ (piece ++ rest) in
      let all : 13 ≡ count + (13 - count) = omega arith in
      let behind : drop count whole ≡ piece ++ rest = drop_at (take count hello) (piece ++ rest) count (length-take-le count hello (omega arith)) in
      let inside : take next (take (13 - count) (piece ++ rest)) ≡ take next (piece ++ rest) = take-take next (13 - count) (piece ++ rest) (omega arith) in
      sym (take-append-le next piece rest (omega arith))
      ∙ sym inside
      ∙ ap (λ (l : List ℕ). take next (take (13 - count) l)) (sym behind)
      ∙ ap (λ (l : List ℕ). take next l) (sym (drop-take count (13 - count) whole))
      ∙ ap (λ (n : ℕ). take next (drop count (take n whole))) (sym all)
      ∙ ap (λ (l : List ℕ). take next (drop count l)) is

  no_hello : (rest : List ℕ) → bytes_eq (take next piece) (take next (drop count hello)) ≡ false → begins_with_hello (take count hello ++ (piece ++ rest)) ≡ false
  no_hello rest other = go (begins_with_hello (take count hello ++ (piece ++ rest))) refl
    where
      go : (b : Bool) → begins_with_hello (take count hello ++ (piece ++ rest)) ≡ b → b ≡ false
      go false e = refl
      go true e =
          let same = hello_goes rest ((bytes_eq-Decides (take 13 (take count hello ++ (piece ++ rest))) hello).0 e) in
          absurd (false≢true (sym other ∙ (bytes_eq-Decides (take next piece) (take next (drop count hello))).1 same))

  pub opened_first : (frames : List ℕ) → bytes_eq (take next piece) (take next (drop count hello)) ≡ false
      → ((more : List ℕ) → framed request_frames (frames ++ more) ≡ framed request_frames (take count hello ++ (piece ++ more))) → SpeaksAs (take count hello ++ piece) (First frames)
  opened_first frames other goes = record {
    is_spoken = tt;
    says = λ more. sym (ap heard (append_assoc (take count hello) piece more) ∙ (rw (no_hello more other) (sym (goes more))));
  }

  -- ---- more bytes of a hello
  module _ (same : take next piece ≡ take next (drop count hello)) where
    front_more : take count hello ++ take next piece ≡ take (count + next) hello
    front_more = ap (λ (l : List ℕ). take count hello ++ l) same ∙ sym (take-add count next hello)

    pub opened_more : count + next < 13 → SpeaksAs (take count hello ++ piece) (Opening (count + next))
    opened_more few =
        let all : take next piece ≡ piece = take_all next piece (omega arith) in
        let whole : take (count + next) hello ≡ take count hello ++ piece = sym front_more ∙ ap (λ (l : List ℕ). take count hello ++ l) all in
        record { is_spoken = few; says = λ more. ap (λ (l : List ℕ). heard (l ++ more)) whole }

    pub opened_second : (frames : List ℕ) → 13 ≤ count + next → ((more : List ℕ) → framed second_frames (frames ++ more) ≡ framed second_frames (drop next piece ++ more))
        → SpeaksAs (take count hello ++ piece) (Second false frames)
    opened_second frames enough goes =
        let thirteen : count + next ≡ 13 = omega arith in
        let whole : take count hello ++ piece ≡ hello ++ drop next piece =
        ap (λ (l : List ℕ). take count hello ++ l) (sym (take-append-drop next piece))
        ∙ sym (append_assoc (take count hello) (take next piece) (drop next piece))
        ∙ ap (λ (l : List ℕ). l ++ drop next piece) (front_more ∙ ap (λ (n : ℕ). take n hello) thirteen) in
        record {
          is_spoken = tt;
          says = λ more. ap (λ (s : Stream). after_item (Asked (Hello 2)) s) (goes more) ∙ sym (ap (λ (l : List ℕ). heard (l ++ more)) whole);
        }

-- ---- frames that are fed
pub fed_second : {E : Type 0} (r : Result (Unit {0}) E) (told : Bool) (old new piece : List ℕ) → OnOk r ((more : List ℕ) → framed second_frames (new ++ more) ≡ framed second_frames (old ++ (piece ++ more)))
    → OnOk r (IsFed (heard_by (fed_by (Second told old))) piece (heard_by (fed_by (Second told new))))
fed_second (Ok u) true old new piece h = h
fed_second (Ok u) false old new piece h = λ more. ap (λ (s : Stream). after_item (Asked (Hello 2)) s) (h more)
fed_second (Err e) told old new piece h = tt
