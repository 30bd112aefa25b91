use Rattle.std.proofs.Common.{◌≡◌, cond, Some, List, ℕ, rules}
use Rattle.std.specs.Str.{bytes_eq}
use Rattle.std.proofs.lemmas.Result.{on_ok_weaker, on_err_weaker}
use Rattle.file_names.specs.Folders.{entries_at, Entries, HasPut}
use Rattle.file_names.proofs.Maps.{updates_bytes, put_by, keeps_by}
use Rattle.file_names.proofs.folders.put_entry.Goals as goal

was : (c : goal.After-folders-in-Some-1) → entries_at c.args.folders.now c.args.folder.now ≡ Some c.in-Some.entries.now
was c = search rules

made : (c : goal.After-folders-in-Some-1) (w : Entries) (f : List ℕ) → entries_at (c.get_mut.follows.lender w) f ≡ cond (bytes_eq c.args.folder.now f) (Some w) (entries_at c.args.folders.now f)
made c w f = updates_bytes c.args.folder.now c.args.folders.now (c.get_mut.follows.lender w) (Some w) ((c.get_mut.follows.holds w).3 (search rules)) f

pub returns-clause-put : goal.returns-clause-put
returns-clause-put c =
    on_ok_weaker c.put_at.result
    (λ (put : HasPut c.in-Some.entries.now c.args.name.now c.args.named c.put_at.new.map). put_by c.args.folders.now (c.get_mut.follows.lender c.put_at.new.map) c.args.folder.now c.args.name.now c.args.named c.in-Some.entries.now c.put_at.new.map (was c) put (made c c.put_at.new.map))
    c.put_at.ensures.put

pub returns-clause-same : goal.returns-clause-same
returns-clause-same c =
    on_err_weaker c.put_at.result
    (λ (same : c.put_at.new.map.entries ≡ c.in-Some.entries.now.entries). keeps_by c.args.folders.now (c.get_mut.follows.lender c.put_at.new.map) c.args.folder.now c.in-Some.entries.now c.put_at.new.map (was c) same (made c c.put_at.new.map))
    c.put_at.ensures.same
