use Rattle.range_log.proofs.Nodes.{links_name_nodes}
use Rattle.range_log.proofs.Links.{links_lead, backs_lead}
use Rattle.range_log.proofs.laws.links_name_nodes.Goals as goal

pub returns-clause-nodes : goal.returns-clause-nodes
returns-clause-nodes c = links_name_nodes

pub returns-clause-links : goal.returns-clause-links
returns-clause-links c = links_lead

pub returns-clause-backs : goal.returns-clause-backs
returns-clause-backs c = backs_lead
