use Rattle.client_session.proofs.Opened.{ticket_here_stays}
use Rattle.client_session.proofs.laws.tickets_stay_here.Goals as goal

pub returns : goal.returns
returns c = ticket_here_stays
