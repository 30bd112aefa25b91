use Rattle.std.proofs.Common.{rules, arith, ◌≡◌, length}
use Rattle.ports.proofs.Known.{all_read}
use Rattle.ports.proofs.host.read_whole.Goals as goal

pub returns-in-Ok-clause-reads : goal.returns-in-Ok-clause-reads
returns-in-Ok-clause-reads g c =
    let size : length c.of.result ≡ c.len.result = search rules in
    all_read (g.F.Read.remaining c.args.file) c.of.result c.take-start.result.limit (search rules) (omega (arith, size, c.read_to_end.new.buf.small))
