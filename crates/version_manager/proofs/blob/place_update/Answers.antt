use Rattle.std.proofs.Common.{◌≡◌, length, ap, sym, ◌∙◌, subst, arith}
use Rattle.blob_model.specs.Limits.{Bounds, IsWithin}
use Rattle.blob_model.specs.Store.{assigned, waiting}
use Rattle.version_manager.proofs.Blobs.{assigned_is, waiting_is}
use Rattle.version_manager.proofs.BlobsTests.{at_is, end_is, refused_past, refused_big, refused_versions, refused_open, not_refused}
use Rattle.version_manager.proofs.blob.place_update.Goals as goal

pub returns-then-at-size-clause-refused : goal.returns-then-at-size-clause-refused
returns-then-at-size-clause-refused c b bytes k n =
    refused_past c.args.limits b c.args.place bytes c.size_of_last-size.result c.offset_in-at.result c.args.len (c.size_of_last-size.ensures c.args.limits b k) c.offset_in-at.ensures n c.if-at-size.true

pub overflow_add-at : goal.overflow_add-at
overflow_add-at c =
    let k = c.requires.kept.1 in
    let us = c.requires.kept.0.updates in
    omega (arith, c.size_of_last-size.ensures c.args.limits c.requires.kept.0 k, k.stands.fits (length us) (omega arith))

pub returns-then-end-limits-clause-refused : goal.returns-then-end-limits-clause-refused
returns-then-end-limits-clause-refused c b bytes k n =
    refused_big c.args.limits b c.args.place bytes c.size_of_last-size.result c.offset_in-at.result c.args.len (c.size_of_last-size.ensures c.args.limits b k) c.offset_in-at.ensures n
    c.max-end.result c.limits.inside.max_size (ap (λ (l : Bounds). l.max_size) c.limits.view_is) c.max-end.ensures c.if-at-size.false c.if-end-limits.true

pub returns-then-assigned-limits-clause-refused : goal.returns-then-assigned-limits-clause-refused
returns-then-assigned-limits-clause-refused c b bytes k n =
    let size = ap (λ (l : Bounds). l.max_size) c.limits.view_is in
    refused_versions c.args.limits b c.args.place bytes c.size_of_last-size.result c.offset_in-at.result c.args.len (c.size_of_last-size.ensures c.args.limits b k) c.offset_in-at.ensures n
    c.max-end.result c.limits.inside.max_versions (ap (λ (l : Bounds). l.max_versions) c.limits.view_is) c.max-end.ensures c.if-at-size.false (omega (arith, size))
    (sym (assigned_is c.args.limits c.args.window.now.numbered b k) ∙ sym c.assigned.ensures.log ∙ c.if-assigned-limits.true)

pub returns-then-from-limits-clause-refused : goal.returns-then-from-limits-clause-refused
returns-then-from-limits-clause-refused c b bytes k n =
    let w = c.args.window.now.numbered in
    let size = ap (λ (l : Bounds). l.max_size) c.limits.view_is in
    let versions = ap (λ (l : Bounds). l.max_versions) c.limits.view_is in
    let all = assigned_is c.args.limits w b k in
    let waits : waiting b ≡ c.count.result = omega (arith, waiting_is c.args.limits w b k (omega arith), ap length c.waiting.ensures) in
    refused_open c.args.limits b c.args.place bytes c.size_of_last-size.result c.offset_in-at.result c.args.len (c.size_of_last-size.ensures c.args.limits b k) c.offset_in-at.ensures n
    c.max-end.result c.limits.inside.max_open (ap (λ (l : Bounds). l.max_open) c.limits.view_is) c.max-end.ensures c.if-at-size.false (omega (arith, size))
    (λ e. c.if-assigned-limits.false (omega (arith, e, all, versions))) (omega (arith, waits))

pub returns-clause-accepted : goal.returns-clause-accepted
returns-clause-accepted c b bytes k n =
    let w = c.args.window.now.numbered in
    let size = ap (λ (l : Bounds). l.max_size) c.limits.view_is in
    let versions = ap (λ (l : Bounds). l.max_versions) c.limits.view_is in
    let open' = ap (λ (l : Bounds). l.max_open) c.limits.view_is in
    let all = assigned_is c.args.limits w b k in
    let waits : waiting b ≡ c.count.result = omega (arith, waiting_is c.args.limits w b k (omega arith), ap length c.waiting.ensures) in
    not_refused c.args.limits b c.args.place bytes c.size_of_last-size.result c.offset_in-at.result c.args.len (c.size_of_last-size.ensures c.args.limits b k) c.offset_in-at.ensures n
    c.max-end.result c.max-end.ensures c.if-at-size.false (omega (arith, size))
    (λ e. c.if-assigned-limits.false (omega (arith, e, all, versions))) (λ e. c.if-from-limits.false (omega (arith, e, waits, open')))

pub returns-clause-falls : goal.returns-clause-falls
returns-clause-falls c b bytes k n =
    let w = c.args.window.now.numbered in
    let s = c.size_of_last-size.ensures c.args.limits b k in
    let size = ap (λ (l : Bounds). l.max_size) c.limits.view_is in
    let versions = ap (λ (l : Bounds). l.max_versions) c.limits.view_is in
    let open' = ap (λ (l : Bounds). l.max_open) c.limits.view_is in
    let all = assigned_is c.args.limits w b k in
    let waits : waiting b ≡ c.count.result = omega (arith, waiting_is c.args.limits w b k (omega arith), ap length c.waiting.ensures) in
    let more : assigned b ≡ c.args.limits.max_versions → ⊥ = λ e. c.if-assigned-limits.false (omega (arith, e, all, versions)) in
    let room : waiting b ≡ c.args.limits.max_open → ⊥ = λ e. c.if-from-limits.false (omega (arith, e, waits, open')) in
    let end = end_is c.args.limits b c.args.place bytes c.size_of_last-size.result c.offset_in-at.result c.args.len s c.offset_in-at.ensures n in
    let at = at_is c.args.limits b c.args.place bytes c.size_of_last-size.result c.offset_in-at.result c.args.len s c.offset_in-at.ensures n in
    record {
      takes = record {
        kept = k;
        bounds = subst IsWithin c.limits.view_is c.limits.invariant;
        even = omega arith;
        some = omega (arith, n);
        begins = omega (arith, s, at);
        fits = omega (arith, size, end);
        versions = omega (arith, k.versions, more);
        waits = omega (arith, k.waiting, room);
      };
      at_is = at;
      size_is = c.max-end.ensures ∙ end;
    }
