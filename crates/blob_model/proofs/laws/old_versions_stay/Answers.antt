use Rattle.std.proofs.Common.{◌∙◌, ap}
use Rattle.blob_model.specs.Store.{Store, blob_at, empty_store}
use Rattle.blob_model.specs.History.{store_of}
use Rattle.blob_model.proofs.Stays.{store_kept, store_from-append}
use Rattle.blob_model.proofs.laws.old_versions_stay.Goals as goal

pub returns : goal.returns
returns c = λ limits history more id old is.
    let (new, at, stay) = store_kept (store_of limits history) more id old is in
    (new, ap (λ (s : Store). blob_at s id) (store_from-append (empty_store limits) history more) ∙ at, stay)
