use Rattle.range_log.proofs.Nodes.{no_holes}
use Rattle.range_log.proofs.Links.{links_have_no_holes, backs_have_no_holes}
use Rattle.range_log.proofs.laws.no_holes.Goals as goal

pub returns-clause-nodes : goal.returns-clause-nodes
returns-clause-nodes c = no_holes

pub returns-clause-links : goal.returns-clause-links
returns-clause-links c = links_have_no_holes

pub returns-clause-backs : goal.returns-clause-backs
returns-clause-backs c = backs_have_no_holes
