use Rattle.std.proofs.Common.{◌≡◌, ℕ, ◌+◌, List, ◌++◌, take, drop, sym, ◌∙◌, ap, take-append-drop, drop-drop}
use Rattle.std.proofs.Math.Seq.{take-add}
use Rattle.memory_ports.specs.Streams.{Reading}
use Rattle.memory_ports.proofs.streams.MemSource.give.Goals as goal

-- the bytes from a place on are the n that were copied and those after them
split_at : (bytes to from : List ℕ) (at n : ℕ) (left : List ℕ) → drop at bytes ≡ left → take n to ≡ take n (drop at from) → from ≡ bytes → left ≡ take n to ++ drop (at + n) bytes
split_at bytes to from at n left is_left copied same =
    let front : take n to ≡ take n (drop at bytes) = copied ∙ ap (λ (x : List ℕ). take n (drop at x)) same in
    sym is_left ∙ (sym (take-append-drop n (drop at bytes)) ∙ (ap (λ (x : List ℕ). x ++ drop n (drop at bytes)) (sym front) ∙ ap (λ (x : List ℕ). take n to ++ x) (drop-drop n at bytes)))

-- the bytes before the new place are those before the old one and the n that were copied
joined_at : (bytes to from : List ℕ) (at n : ℕ) (given : List ℕ) → take at bytes ≡ given → take n to ≡ take n (drop at from) → from ≡ bytes → take (at + n) bytes ≡ given ++ take n to
joined_at bytes to from at n given is_given copied same =
    let front : take n to ≡ take n (drop at bytes) = copied ∙ ap (λ (x : List ℕ). take n (drop at x)) same in
    take-add at n bytes ∙ (ap (λ (x : List ℕ). x ++ take n (drop at bytes)) is_given ∙ ap (λ (x : List ℕ). given ++ x) (sym front))

pub returns-clause-bytes : goal.returns-clause-bytes
returns-clause-bytes c = split_at c.self.inside.bytes.items c.copy_front.new.to c.as_slice.result.now c.self.inside.at c.args.n c.args.self.now.left (ap (λ (x : Reading). x.left) c.self.view_is) c.copy_front.ensures.front c.as_slice.ensures.value

pub returns-clause-given : goal.returns-clause-given
returns-clause-given c = joined_at c.self.inside.bytes.items c.copy_front.new.to c.as_slice.result.now c.self.inside.at c.args.n c.args.self.now.given (ap (λ (x : Reading). x.given) c.self.view_is) c.copy_front.ensures.front c.as_slice.ensures.value
