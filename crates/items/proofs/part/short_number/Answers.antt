use Rattle.std.proofs.Common.{ℕ, [], arith, ap, ◌∙◌, append-nil}
use Rattle.byteorder.specs.Endian.{big_bytes}
use Rattle.items.specs.BegunFrame.{frame_part}
use Rattle.items.proofs.Numbers.{bytes_again}
use Rattle.items.proofs.part.short_number.Goals as goal

pub returns : goal.returns
unfolding frame_part
returns c = ap (λ (n : ℕ). frame_part n []) c.read_u32.ensures ∙ append-nil (big_bytes 4 _) ∙ bytes_again 4 c.args.bytes.now c.requires (λ i. omega (arith, c.type_inv.bytes i))
