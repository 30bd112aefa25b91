use Rattle.std.proofs.Common.{◌≡◌, ◌+◌, ap, ◌∙◌, Some, rules}
use Rattle.std.specs.Prelude.{is_some, if◌then◌else◌}
use Rattle.std.specs.BTreeMap.{btree_map_len}
use Rattle.file_names.specs.Folders.{at_bytes}
use Rattle.file_names.proofs.Maps.{updates_bytes}
use Rattle.file_names.proofs.folders.put_at.Goals as goal

pub returns-clause-put : goal.returns-clause-put
returns-clause-put g c =
    let key : c.in_ok-key.key.items ≡ c.args.bytes.now = search rules in
    let kept = updates_bytes c.in_ok-key.key.items c.args.map.now c.insert.new.self (Some c.args.value) c.in_ok-_before.ensures.updates in
    let count : btree_map_len c.insert.new.self ≡ btree_map_len c.args.map.now + (if is_some (at_bytes c.args.map.now c.in_ok-key.key.items) then 0 else 1) =
    c.in_ok-_before.ensures.len ∙ ap (λ o. btree_map_len c.args.map.now + (if is_some o then 0 else 1)) c.in_ok-_before.ensures.old in
    record { kept = rw key at kept; count = rw key at count }
