use Rattle.std.proofs.Common.{refl}
use Rattle.std.specs.Prelude.{flat_map}
use Rattle.request_form.specs.Transcript.{first_session}
use Rattle.script_text.specs.Said.{said}
use Rattle.blobseer_run.proofs.Legal.{alone_well, history_alone}
use Rattle.blobseer_run.proofs.laws.transcripts_are_legal.Goals as goal

pub returns-clause-legal : goal.returns-clause-legal
returns-clause-legal c = λ fixed heard replies last run. (alone_well c.old_versions_stay.ensures fixed heard replies last run).sound.legal

pub returns-clause-histories : goal.returns-clause-histories
returns-clause-histories c = λ fixed heard replies last run short. history_alone c.old_versions_stay.ensures fixed heard replies last run short

pub returns-clause-always : goal.returns-clause-always
returns-clause-always c = λ fixed items.
    let made = c.transcripts_hold.ensures.fed (first_session fixed 1) items tt in (
      flat_map said made.0,
      record {
        alone = record { replies = made.0; last = made.1.0; transcript = made.1.1.0; says = refl };
        legal = (alone_well c.old_versions_stay.ensures fixed items made.0 made.1.0 made.1.1.0).sound.legal;
        fed = made.1.1.1.1;
        calm = made.1.1.1.0;
      },
    )
