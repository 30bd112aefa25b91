-- The pages of a numbering, in the world.
use Rattle.std.proofs.Common.{◌≡◌, ℕ, ◌≤◌, suc, true, false, List, [], ◌∷◌, ◌++◌, length, refl, ap, ◌∙◌, arith}
use Rattle.std.specs.Prelude.{None, max}
use Rattle.std.proofs.lemmas.Bool.Decides.{nat_tests}
use Rattle.blob_core.specs.World.{page_at, same_number, bytes_of_pages, AreCut}
use Rattle.blob_core.specs.declared.step.Step.TheVariants as Moves
use Rattle.blob_core.proofs.Lists.{bytes_are, entry_new}
use Rattle.page_store.specs.Stored.{Stored, IsCut}
use Rattle.page_store.specs.Stored.{bytes_of_pages as bytes_of_stored}
use Rattle.world_acts.specs.Pages.{AreThePages, PagePutsAreSteps, NumbersGoOn}
use Rattle.world_acts.proofs.Steps.{quiet_step}

-- ---- one page
number_itself : (n : ℕ) → same_number n n ≡ true
number_itself n = grind (arith, nat_tests)

pub page_putting : PagePutsAreSteps
page_putting f history w page bytes a new some few = (
  quiet_step f history w (Moves.PagePut page bytes) a (new, some, few) refl,
  entry_new same_number w.pages page bytes (number_itself page),
)

-- a number above those of all pages
abbrev above : List (ℕ × List ℕ) → ℕ
above [] = 0
above (e ∷ es) = max (suc e.0) (above es)

none_above : (es : List (ℕ × List ℕ)) (n : ℕ) → above es ≤ n → page_at es n ≡ None
none_above [] n le = refl
none_above (e ∷ es) n le =
    let most : max (suc e.0) (above es) ≤ n = le in
    let below : suc e.0 ≤ n = omega (arith, most) in
    let apart : same_number e.0 n ≡ false = grind (arith, nat_tests, below) in
    rw apart (none_above es n (omega (arith, most)))

pub numbers_go_on : NumbersGoOn
numbers_go_on w = (above w.pages, none_above w.pages (above w.pages) (omega arith))

-- ---- the pages of an update
pub joined_is : (stored : List (ℕ × List ℕ)) (numbers : List ℕ) (pages : List Stored) → AreThePages stored numbers pages → bytes_of_pages stored numbers ≡ bytes_of_stored pages
joined_is stored [] [] are = refl
joined_is stored [] (page ∷ pages) are = absurd are
joined_is stored (number ∷ numbers) [] are = absurd are
joined_is stored (number ∷ numbers) (page ∷ pages) are =
    ap (λ (b : List ℕ). b ++ bytes_of_pages stored numbers) (bytes_are stored number page.bytes are.0)
    ∙ ap (λ (b : List ℕ). page.bytes ++ b) (joined_is stored numbers pages are.1)

cut_more : (p : ℕ) (stored : List (ℕ × List ℕ)) (number : ℕ) (numbers : List ℕ) (page : Stored) (pages : List Stored) → AreThePages stored (number ∷ numbers) (page ∷ pages)
    → IsCut p (page ∷ pages) → AreCut p stored (number ∷ numbers)
cut_more p stored number [] page [] are cut = (page.bytes, are.0)
cut_more p stored number [] page (q ∷ pages) are cut = absurd are.1
cut_more p stored number (m ∷ numbers) page [] are cut = absurd are.1
cut_more p stored number (m ∷ numbers) page (q ∷ pages) are cut =
    ((page.bytes, are.0), ap length (bytes_are stored number page.bytes are.0) ∙ cut.0, cut_more p stored m numbers q pages are.1 cut.1)

pub cut_is : (p : ℕ) (stored : List (ℕ × List ℕ)) (numbers : List ℕ) (pages : List Stored) → AreThePages stored numbers pages → IsCut p pages → 1 ≤ length (bytes_of_stored pages)
    → AreCut p stored numbers
cut_is p stored [] [] are cut some = absurd (omega (arith, some))
cut_is p stored [] (page ∷ pages) are cut some = absurd are
cut_is p stored (number ∷ numbers) [] are cut some = absurd are
cut_is p stored (number ∷ numbers) (page ∷ pages) are cut some = cut_more p stored number numbers page pages are cut
