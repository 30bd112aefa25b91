use Rattle.request_form.specs.Transcript.{until_quit}
use Rattle.request_form.proofs.Runs.{Run-alone, alone_faults, well_until}
use Rattle.request_form.proofs.Told.{replies_told, last_told, told_is}
use Rattle.request_form.proofs.Always.{all_calm, all_fed}
use Rattle.request_form.proofs.laws.transcripts_hold.Goals as goal

pub returns-clause-alone : goal.returns-clause-alone
returns-clause-alone c = λ s heard replies s' own run. (Run-alone s (until_quit heard) replies s' own run, alone_faults s (until_quit heard) replies s' own run)

pub returns-clause-always : goal.returns-clause-always
returns-clause-always c = λ s heard.
    let items = until_quit heard in
    (replies_told s items, (last_told s items, (told_is s items, λ well. all_calm c.old_versions_stay.ensures s items (well_until heard well))))

pub returns-clause-fed : goal.returns-clause-fed
returns-clause-fed c = λ s heard numbered.
    let items = until_quit heard in (
      replies_told s items,
      (
        last_told s items,
        (told_is s items, ((λ well. all_calm c.old_versions_stay.ensures s items (well_until heard well)), all_fed c.old_versions_stay.ensures s items numbered)),
      ),
    )
