use Rattle.std.proofs.Common.{ap}
use Rattle.settings.specs.Values.{SettingsValues}
use Rattle.blobseer_run.proofs.Stores.{new_store_of}
use Rattle.blobseer_run.proofs.store.new_store.Goals as goal

pub returns : goal.returns
returns c =
    let providers = ap (λ (s : SettingsValues). s.providers) c.settings.view_is in
    let replicas = ap (λ (s : SettingsValues). s.replicas) c.settings.view_is in
    let made = c.new.ensures in
    new_store_of c.args.settings.now c.args.limits _ _ _ c.new.result c.page_size.ensures providers replicas made.owner made.new made.limits made.page_size made.providers made.replicas
