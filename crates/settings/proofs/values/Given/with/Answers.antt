use Rattle.std.proofs.Common.{subst, lit<}
use Rattle.settings.specs.declared.table.Key.{Key}
use Rattle.settings.specs.declared.table.Key.TheVariants.{Providers, Replicas, Workers, Connections, Ops, Readers}
use Rattle.settings.specs.Table.{range_of}
use Rattle.settings.specs.Values.{IsOf}
use Rattle.settings.proofs.RangeLemmas.{narrow_fits}
use Rattle.settings.proofs.values.Given.with.Goals as goal

pub narrow-self-inside-requires : goal.narrow-self-inside-requires
narrow-self-inside-requires c =
    narrow_fits (range_of Providers) c.args.number (lit< tt) (subst (λ (k : Key). IsOf k c.args.number) c.in-Providers.is c.requires)

pub narrow-self-inside-requires-in-Replicas : goal.narrow-self-inside-requires-in-Replicas
narrow-self-inside-requires-in-Replicas c =
    narrow_fits (range_of Replicas) c.args.number (lit< tt) (subst (λ (k : Key). IsOf k c.args.number) c.in-Replicas.is c.requires)

pub narrow-self-inside-requires-in-Workers : goal.narrow-self-inside-requires-in-Workers
narrow-self-inside-requires-in-Workers c =
    narrow_fits (range_of Workers) c.args.number (lit< tt) (subst (λ (k : Key). IsOf k c.args.number) c.in-Workers.is c.requires)

pub narrow-self-inside-requires-in-Connections : goal.narrow-self-inside-requires-in-Connections
narrow-self-inside-requires-in-Connections c =
    narrow_fits (range_of Connections) c.args.number (lit< tt) (subst (λ (k : Key). IsOf k c.args.number) c.in-Connections.is c.requires)

pub narrow-self-inside-requires-in-Ops : goal.narrow-self-inside-requires-in-Ops
narrow-self-inside-requires-in-Ops c =
    narrow_fits (range_of Ops) c.args.number (lit< tt) (subst (λ (k : Key). IsOf k c.args.number) c.in-Ops.is c.requires)

pub narrow-self-inside-requires-in-Readers : goal.narrow-self-inside-requires-in-Readers
narrow-self-inside-requires-in-Readers c =
    narrow_fits (range_of Readers) c.args.number (lit< tt) (subst (λ (k : Key). IsOf k c.args.number) c.in-Readers.is c.requires)
