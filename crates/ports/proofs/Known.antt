-- Known bytes of std's readers, over several tries and up to a limit.
use Rattle.std.proofs.Common.{◌≡◌, ℕ, ◌<◌, List, [], ◌++◌, length, None, Some, IfSome, take, take_all, length-take, sym, ◌∙◌, ap, arith}
use Rattle.std.specs.Option.{option_map}
use Rattle.std.specs.Prelude.{Option}
use Rattle.std.specs.Io.KnownBytes.{Keeps, Consumes}

-- a read of no byte after reads that were interrupted took nothing
pub Consumes-nothing : (a b c : Option (List ℕ)) (buf : List ℕ) (n : ℕ) → n ≡ 0 → Keeps a b → Consumes b c (take n buf) → Consumes a c []
Consumes-nothing None b c buf n none kept taken = tt
Consumes-nothing (Some x) None c buf n none kept taken = absurd kept
Consumes-nothing (Some x) (Some y) None buf n none kept taken = absurd taken
Consumes-nothing (Some x) (Some y) (Some z) buf n none kept taken = sym kept ∙ (taken ∙ ap (λ (k : ℕ). take k buf ++ z) none)

-- what was read is all, where it is shorter than what was asked for
pub all_read : (known : Option (List ℕ)) (text : List ℕ) (n : ℕ) → IfSome (option_map (λ bytes. take n bytes) known) (λ bytes. text ≡ bytes) → length text < n → IfSome known (λ bytes. text ≡ bytes)
all_read None text n is short = tt
all_read (Some bytes) text n is short =
    let same : length text ≡ length (take n bytes) = ap length is in
    is ∙ take_all n bytes (omega (arith, length-take n bytes))
