-- The doors that a call had made, by what it answers.
use Rattle.std.specs.Prelude.{ℕ, Result, Ok, Err}
use Rattle.page_store.specs.Calls.{Traffic, AllCameBack}

-- Where it came to its end, so many doors were made in it; where it didn't, it isn't said how many. As many came back as were made.
abbrev pub LentDoors : {M A E : Type 0} → (hands_out takes_back : M → M → Type 0) → ℕ → M → M → Result A E → Type 0
LentDoors hands_out takes_back doors first last (Ok done) = Traffic hands_out takes_back doors doors first last
LentDoors hands_out takes_back doors first last (Err fault) = AllCameBack hands_out takes_back first last
