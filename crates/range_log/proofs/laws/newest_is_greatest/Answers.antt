use Rattle.range_log.proofs.Greatest.{newest_is_greatest, links_agree, newest_none, newest_hit, newest_miss}
use Rattle.range_log.proofs.laws.newest_is_greatest.Goals as goal

pub returns-clause-greatest : goal.returns-clause-greatest
returns-clause-greatest c = newest_is_greatest

pub returns-clause-agree : goal.returns-clause-agree
returns-clause-agree c = links_agree

pub returns-clause-none : goal.returns-clause-none
returns-clause-none c = newest_none

pub returns-clause-hit : goal.returns-clause-hit
returns-clause-hit c = newest_hit

pub returns-clause-miss : goal.returns-clause-miss
returns-clause-miss c = newest_miss
