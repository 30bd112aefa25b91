use Rattle.std.proofs.Common.{◌≡◌, ◌∙◌, refl, w64}
use Rattle.std.specs.Int.{to_be_bytes}
use Rattle.workload_law.specs.Pieces.{record_of}
use Rattle.workload_law.proofs.pieces.record.Goals as goal

pub returns : goal.returns
unfolding record_of
returns c =
    let front : c.copy_from_slice.new.self ≡ to_be_bytes w64 c.args.worker = c.copy_from_slice.ensures.after ∙ c.to_be_bytes.ensures in
    let back : c.copy_from_slice-2.new.self ≡ to_be_bytes w64 c.args.op = c.copy_from_slice-2.ensures.after ∙ c.to_be_bytes-2.ensures in
    rw (front, back) (refl {a = record_of c.args.worker c.args.op})
