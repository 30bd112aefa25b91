-- Bytes taken off the front of a piece, and whole frames.
use Rattle.std.proofs.Common.{◌≡◌, ◌∙◌, ℕ, ◌+◌, ◌-◌, ◌^◌, ◌<◌, ◌≤◌, ◌==◌, true, false, List, [], ◌∷◌, ◌++◌, length, take, drop, take-add, get_or, replicate, refl, sym, ap, subst, arith, append_assoc, length-append}
use Rattle.std.proofs.lemmas.List.{length-replicate, length-take-le}
use Rattle.std.proofs.lemmas.Bool.{false≢true}
use Rattle.std.proofs.lemmas.Bool.Decides.{nat_tests}
use Rattle.arrayvec.specs.ArrayVec.{ArrayVec}
use Rattle.items.specs.Items.{after_item}
use Rattle.items.specs.Framing.{Framing, IsFraming, item_of, is_whole, framed}
use Rattle.items.specs.Come.{Come, TakesBytes}
use Rattle.items.specs.BegunFrame.{GoesOnAs, frame_part, begun_bytes, is_complete, IsWrong, IsBegun, TakesPart}
use Rattle.items.specs.Taken.{IsOpen}
use Rattle.items.specs.declared.begun_frame.Dropped.{Dropped}
use Rattle.items.specs.declared.begun_frame.Begun.{Begun}
use Rattle.items.specs.declared.begun_frame.Begun.TheVariants.{Length, Counted, Asked, Wrong}
use Rattle.items.proofs.FramesHeard.{whole_heard, whole_is}
use Rattle.items.proofs.FrameBegun.{frame_part-length, frame_part-append, goes_on_wrong, opened_whole, opened_open}

-- bytes of the length come behind those that have come of it
pub length_on : {A B : Type 0} (f : Framing A) (come : B → Come) (part part' : ArrayVec ℕ) (piece : List ℕ) (count : ℕ) → 0 < count → count ≤ length piece → length part'.items < 4 → part'.items ≡ part.items ++ take count piece
    → TakesPart f come (begun_bytes come (Length part)) piece (Length part') count
length_on f come part part' piece count some_bytes within short is =
    record { some = some_bytes; within = within; begun_well = short; goes_on = λ more. ap (λ (l : List ℕ). framed f (l ++ more)) (sym is) }

-- or with them it is whole
pub length_whole : {A B : Type 0} (f : Framing A) (come : B → Come) (part : ArrayVec ℕ) (piece : List ℕ) (next : Begun B) (count number : ℕ) → 0 < count → count ≤ length piece → IsBegun f.limit come next
    → begun_bytes come next ≡ frame_part number [] → frame_part number [] ≡ part.items ++ take count piece → TakesPart f come (begun_bytes come (Length part)) piece next count
length_whole f come part piece next count number some_bytes within begun bytes is =
    record { some = some_bytes; within = within; begun_well = begun; goes_on = λ more. ap (λ (l : List ℕ). framed f (l ++ more)) (sym (bytes ∙ is)) }

-- the operation comes behind the length
pub counted_on : {A : Type 0} (f : Framing A) (n : ℕ) (piece bytes : List ℕ) → 0 < length piece → GoesOnAs f (frame_part n (get_or piece 0 0 ∷ [])) bytes → GoesOnAs f (frame_part n [] ++ take 1 piece) bytes
counted_on f n [] bytes there goes more = absurd (omega arith)
counted_on f n (b ∷ piece) bytes there goes more = ap (λ (l : List ℕ). framed f (l ++ more)) (frame_part-append n [] (b ∷ [])) ∙ goes more

-- bytes of the fields come behind those that have come
pub asked_on : {A B : Type 0} (f : Framing A) (come : B → Come) (was : B) (piece : List ℕ) (now : B) (count : ℕ) → IsBegun f.limit come (Asked was) → TakesBytes (come was) piece (come now) count → TakesPart f come (begun_bytes come (Asked was)) piece (Asked now) count
asked_on f come was piece now count begun takes =
    let old = come was in
    let new = come now in
    let front : List ℕ = take count piece in
    let taken : length front ≡ count = length-take-le count piece takes.within in
    let joined : length new.bytes ≡ length old.bytes + length front = ap (λ (l : List ℕ). length l) takes.bytes ∙ length-append old.bytes front in
    let left = takes.left in
    let same : length old.bytes + old.left ≡ length new.bytes + new.left = omega arith in
    let few = begun.1 in
    record {
      some = takes.some;
      within = takes.within;
      begun_well = (omega (arith, begun.0), omega arith);
      goes_on = λ more.
          ap (λ (l : List ℕ). framed f (l ++ more))
          (frame_part-append (length old.bytes + old.left) old.bytes front ∙ ap (λ (l : List ℕ). frame_part (length old.bytes + old.left) l) (sym takes.bytes) ∙ ap (λ (n : ℕ). frame_part n new.bytes) same);
    }

-- bytes of a frame that is certainly wrong are dropped
pub wrong_on : {A B : Type 0} (f : Framing A) (is : IsFraming f) (come : B → Come) (was : Dropped) (piece : List ℕ) (now : Dropped) (count : ℕ) → IsWrong f.limit was → 0 < count → count ≤ length piece → now.length ≡ was.length
    → now.left + count ≡ was.left → TakesPart f come (begun_bytes come (Wrong was)) piece (Wrong now) count
wrong_on f is come was piece now count wrong some_bytes within same left =
    let taken : length (take count piece) ≡ count = length-take-le count piece within in
    let before : was.left ≤ was.length = wrong.within in
    record {
      some = some_bytes;
      within = within;
      begun_well = record {
        within = omega arith;
        fits = subst (λ (n : ℕ). n < 2 ^ 32) (sym same) wrong.fits;
        certain = λ short more. omega arith;
      };
      goes_on = λ more.
          goes_on_wrong f is was.length was.left now.left (take count piece) wrong.within wrong.fits (λ short. wrong.certain short (omega arith)) (omega arith) more
          ∙ ap (λ (n : ℕ). framed f (frame_part n (replicate (n - now.left) 0) ++ more)) (sym same);
    }

-- what goes on as the bytes so far goes on with more of the piece
pub goes_on_more : {A : Type 0} (f : Framing A) (bytes piece now next : List ℕ) (taken count : ℕ) → GoesOnAs f (bytes ++ take taken piece) now → GoesOnAs f (now ++ take count (drop taken piece)) next
    → GoesOnAs f (bytes ++ take (taken + count) piece) next
goes_on_more f bytes piece now next taken count before here more =
    let front : List ℕ = take taken piece in
    let middle : List ℕ = take count (drop taken piece) in
    ap (λ (l : List ℕ). framed f ((bytes ++ l) ++ more)) (take-add taken count piece)
    ∙ ap (λ (l : List ℕ). framed f l) (ap (λ (l : List ℕ). l ++ more) (sym (append_assoc bytes front middle)) ∙ append_assoc (bytes ++ front) middle more)
    ∙ before (middle ++ more)
    ∙ ap (λ (l : List ℕ). framed f l) (sym (append_assoc now middle more))
    ∙ here more

-- ---- whole frames and parts of frames

pub not_zero : (n : ℕ) → (n == 0) ≡ false → 0 < n
not_zero n h = grind (arith, nat_tests, h)

pub is_zero : (n : ℕ) → (n == 0) ≡ true → n ≡ 0
is_zero n h = grind (arith, nat_tests, h)

pub incomplete_open : {A B : Type 0} (f : Framing A) (is : IsFraming f) (come : B → Come) (b : Begun B) → IsBegun f.limit come b → is_complete come b ≡ false → IsOpen (begun_bytes come b)
incomplete_open f is come (Length part) begun more = λ four. absurd (omega (arith, begun))
incomplete_open f is come (Counted n) begun more = opened_open n [] (let fits = is.fits in omega (arith, begun.1)) begun.0
incomplete_open f is come (Asked body) begun more = let left = not_zero (come body).left more in opened_open (length (come body).bytes + (come body).left) (come body).bytes (let fits = is.fits in omega (arith, begun.1)) (omega arith)
incomplete_open f is come (Wrong frame) begun more =
    let left = not_zero frame.left more in
    let within = begun.within in
    let zeros = length-replicate {A = ℕ} (frame.length - frame.left) 0 in
    opened_open frame.length (replicate (frame.length - frame.left) 0) begun.fits (omega arith)

pub complete_whole : {A B : Type 0} (f : Framing A) (is : IsFraming f) (come : B → Come) (b : Begun B) → IsBegun f.limit come b → is_complete come b ≡ true → is_whole (begun_bytes come b) ≡ true
complete_whole f is come (Length part) begun whole = absurd (false≢true whole)
complete_whole f is come (Counted n) begun whole = absurd (false≢true whole)
complete_whole f is come (Asked body) begun whole = let none = is_zero (come body).left whole in opened_whole (length (come body).bytes + (come body).left) (come body).bytes (let fits = is.fits in omega (arith, begun.1)) (omega arith)
complete_whole f is come (Wrong frame) begun whole =
    let none = is_zero frame.left whole in
    let zeros = length-replicate {A = ℕ} (frame.length - frame.left) 0 in
    opened_whole frame.length (replicate (frame.length - frame.left) 0) begun.fits (omega arith)

pub complete_not_open : {A B : Type 0} (f : Framing A) (is : IsFraming f) (come : B → Come) (b : Begun B) → IsBegun f.limit come b → is_complete come b ≡ true → IsOpen (begun_bytes come b) → ⊥
complete_not_open f is come b begun whole part = let w = whole_is (begun_bytes come b) (complete_whole f is come b begun whole) in let less = part w.0 in omega arith

pub complete_gives : {A B : Type 0} (f : Framing A) (is : IsFraming f) (come : B → Come) (b : Begun B) (item : A) → IsBegun f.limit come b → is_complete come b ≡ true → item_of f (begun_bytes come b) ≡ item → (more : List ℕ) → framed f (begun_bytes come b ++ more) ≡ after_item item (framed f more)
complete_gives {A = A} f is come b item begun whole says more = whole_heard f (begun_bytes come b) more (complete_whole f is come b begun whole) ∙ ap (λ (h : A). after_item h (framed f more)) says

some_bytes : (n : ℕ) (bytes : List ℕ) → false ≡ (length (frame_part n bytes) == 0)
some_bytes n bytes = let l = frame_part-length n bytes in grind (arith, nat_tests, l)

-- a frame whose length has come is something
pub something : {B : Type 0} (come : B → Come) (b : Begun B) → ((part : ArrayVec ℕ) → b ≡ Length part → ⊥) → false ≡ (length (begun_bytes come b) == 0)
something come (Length part) other = absurd (other part refl)
something come (Counted n) other = some_bytes n []
something come (Asked body) other = some_bytes (length (come body).bytes + (come body).left) (come body).bytes
something come (Wrong frame) other = some_bytes frame.length (replicate (frame.length - frame.left) 0)
