use Rattle.std.proofs.Common.{arith, refl, ap₂, ◌∙◌}
use Rattle.settings.specs.declared.table.Key.TheVariants.{Providers, Replicas, MaxSize, MaxVersions, MaxOpen, MaxBlobs}
use Rattle.settings.specs.Table.{range_of}
use Rattle.settings.specs.Values.{GivenValues}
use Rattle.settings.specs.Merged.{chosen, merged}
use Rattle.settings.proofs.RangeLemmas.{fits_most}
use Rattle.settings.proofs.MergeLemmas.{settled}
use Rattle.settings.proofs.merging.merge.Goals as goal

pub returns-then-providers-replicas-clause-refused : goal.returns-then-providers-replicas-clause-refused
returns-then-providers-replicas-clause-refused c =
    let providers = c.chosen_narrow-providers.ensures.is ∙ ap₂ (λ (w f : GivenValues). chosen Providers w.providers f.providers) c.words.view_is c.file.view_is in
    let replicas = c.chosen_narrow-replicas.ensures.is ∙ ap₂ (λ (w f : GivenValues). chosen Replicas w.replicas f.replicas) c.words.view_is c.file.view_is in
    (λ yes. omega (arith, providers, replicas, c.if-providers-replicas.true), λ fewer. refl)

pub invariant_of-limits : goal.invariant_of-limits
invariant_of-limits c = record {
  size = fits_most (range_of MaxSize) _ c.chosen_wide.ensures.fits;
  versions = fits_most (range_of MaxVersions) _ c.chosen_wide-2.ensures.fits;
  waiting = fits_most (range_of MaxOpen) _ c.chosen_wide-3.ensures.fits;
  blobs = fits_most (range_of MaxBlobs) _ c.chosen_wide-4.ensures.fits;
}

pub invariant_of-result : goal.invariant_of-result
invariant_of-result c =
    settled _ c.chosen_wide-5.ensures.fits c.chosen_narrow-providers.ensures.fits c.chosen_narrow-replicas.ensures.fits (omega arith)
    c.chosen_wide.ensures.fits c.chosen_wide-2.ensures.fits c.chosen_wide-3.ensures.fits c.chosen_wide-4.ensures.fits
    c.chosen_narrow.ensures.fits c.chosen_narrow-2.ensures.fits c.chosen_narrow-3.ensures.fits c.chosen_narrow-4.ensures.fits

pub returns-clause-settled : goal.returns-clause-settled
returns-clause-settled c =
    settled _ c.chosen_wide-5.ensures.fits c.chosen_narrow-providers.ensures.fits c.chosen_narrow-replicas.ensures.fits (omega arith)
    c.chosen_wide.ensures.fits c.chosen_wide-2.ensures.fits c.chosen_wide-3.ensures.fits c.chosen_wide-4.ensures.fits
    c.chosen_narrow.ensures.fits c.chosen_narrow-2.ensures.fits c.chosen_narrow-3.ensures.fits c.chosen_narrow-4.ensures.fits

pub returns-clause-settings : goal.returns-clause-settings
returns-clause-settings c =
    rw (
      c.chosen_wide-5.ensures.is,
      c.chosen_narrow-providers.ensures.is,
      c.chosen_narrow-replicas.ensures.is,
      c.chosen_wide.ensures.is,
      c.chosen_wide-2.ensures.is,
      c.chosen_wide-3.ensures.is,
      c.chosen_wide-4.ensures.is,
      c.chosen_narrow.ensures.is,
      c.chosen_narrow-2.ensures.is,
      c.chosen_wide-6.ensures.is,
      c.chosen_narrow-3.ensures.is,
      c.chosen_narrow-4.ensures.is,
      c.text_chosen.ensures,
      c.text_chosen-2.ensures,
    ) (ap₂ merged c.words.view_is c.file.view_is)

pub returns-clause-refused : goal.returns-clause-refused
returns-clause-refused c =
    let providers = c.chosen_narrow-providers.ensures.is ∙ ap₂ (λ (w f : GivenValues). chosen Providers w.providers f.providers) c.words.view_is c.file.view_is in
    let replicas = c.chosen_narrow-replicas.ensures.is ∙ ap₂ (λ (w f : GivenValues). chosen Replicas w.replicas f.replicas) c.words.view_is c.file.view_is in
    (λ no. (let never : ⊥ = cc no in absurd never), λ fewer. absurd (omega (arith, fewer, providers, replicas, c.if-providers-replicas.false)))
