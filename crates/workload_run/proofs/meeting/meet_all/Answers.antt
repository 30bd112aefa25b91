use Rattle.std.proofs.Common.{◌∙◌, List, [], ◌∷◌, ◌++◌, take, ap, subst, sym, arith}
use Rattle.std.specs.Prelude.{All}
use Rattle.std.proofs.lemmas.List.{take_more, take_all}
use Rattle.std.proofs.lemmas.List.Elements.{All-push}
use mathlib.Core.List.{IsPrefix}
use Rattle.read_board.specs.Keeping.{KeeperState}
use Rattle.workload_run.specs.Readers.{WatcherState, HasMet}
use Rattle.workload_run.proofs.meeting.meet_all.Goals as goal

pub meets-preserved : goal.meets-preserved
meets-preserved g c =
    let all = c.args.keeper.now.all in
    let xs = c.args.watchers.now in
    let at = c.meets.watcher-index in
    let w : WatcherState _ = c.watcher-item.result in
    let i = c.meets.invariant in
    let same = c.meet.ensures.same ∙ i.same in
    let here = subst (λ (k : KeeperState). IsPrefix c.watcher.inside.reader.list k.all) same c.meet.ensures.begins in
    let met : HasMet all w = subst (λ (x : WatcherState _). IsPrefix x.reader.list all) c.watcher.view_is here in
    let next = take_more xs at w c.meets-test.true ∙ ap (λ (x : WatcherState _). take at xs ++ x ∷ []) (sym c.watcher-item.is) in
    record { met = subst (λ (l : List (WatcherState _)). All (HasMet all) l) (sym next) (All-push (HasMet all) (take at xs) w i.met met); same = same }

pub returns-clause-met : goal.returns-clause-met
returns-clause-met g c =
    let xs = c.args.watchers.now in
    let at = c.meets.watcher-index in
    let whole = take_all at xs (omega (arith, c.meets-test.false)) in
    subst (λ (l : List (WatcherState _)). All (HasMet c.args.keeper.now.all) l) whole c.meets.invariant.met
