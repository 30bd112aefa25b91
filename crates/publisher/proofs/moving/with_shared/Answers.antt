use Rattle.std.proofs.Common.{[], ◌∷◌, ◌++◌, sym, subst}
use Rattle.node_store.specs.UpdateRows.{UpdateRow}
use Rattle.publisher.specs.WindowInvariant.{Ready}
use Rattle.publisher.proofs.moving.with_shared.Goals as goal

pub with_next-requires : goal.with_next-requires
with_next-requires c =
    let s = c.args.snapshot.now in
    let P : UpdateRow → Type 0 = λ r. Ready s.page_size (s.rows ++ r ∷ []) in
    subst P (sym c.in_ok-try_clone.ensures) c.requires
