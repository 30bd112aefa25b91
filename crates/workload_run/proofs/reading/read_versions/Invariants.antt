use Rattle.workload_law.specs.WatchNotes.{HasNoted}
use Rattle.workload_run.specs.Noting.{PieceRead}
use Rattle.workload_run.specs.Readers.{HasRead}
use Rattle.workload_run.proofs.reading.read_versions.Given as goal

abbrev pub invariant-reads : goal.invariant-reads
invariant-reads g l = record {
  read : HasRead g.D.Door.faults 0 l.fn.reader l.reader;
  noted : HasNoted (PieceRead l.fn.reader l.reader) l.op l.readings;
}

abbrev pub ghosts-read_noted : goal.ghosts-read_noted
ghosts-read_noted g a = record { name = a.blank.name; parts = a.blank.parts }
