use Rattle.std.proofs.Common.{ℕ, ◌≡◌, suc, ◌+◌, ◌-◌, List, take, drop, arith, ap, sym, ◌∙◌, subst, length}
use Rattle.std.specs.Prelude.{slice_index_or}
use Rattle.std.specs.Arc.{arc_value}
use Rattle.tree_geom.specs.declared.touch.Touch.{Touch}
use Rattle.page_store.specs.Stored.{Cut, bytes_of_pages}
use Rattle.snapshot.specs.Versions.{Version, older_version}
use Rattle.border_hints.specs.Numbered.{NumberedUpdate, numbered_update}
use Rattle.publisher.specs.Windows.{opens_from}
use Rattle.tree_tests.specs.Blobs.{OneBlob, Start, IsTicketOf}
use Rattle.tree_tests.proofs.Steady.{blob_of}
use Rattle.tree_tests.proofs.Tickets.{IsPicked, first_waits, version_next, below_is_log, begins_before, some_bytes, size_after_it, size_fits, cut_alike, is_ticket}
use Rattle.tree_tests.proofs.blob.Blob.ticket.Goals as goal

pub of-requires : goal.of-requires
of-requires g c =
    let b : OneBlob = blob_of c.self.inside.nodes c.self.inside.window.numbered c.self.inside.touches.items c.self.inside.begun.items in
    let i : ℕ = c.args.version - 1 in
    let s : Start = record { at = c.begun.inside.at; pages = arc_value c.begun.inside.pages } in
    let O : Start → Type 0 = λ x. x ≡ slice_index_or c.self.inside.begun.items i x in
    let same : arc_value c.shared_again-pages.result ≡ s.pages = c.shared_again-pages.ensures in
    let f : IsPicked b c.args.published i s c.older-snapshot.result c.open_between-waiting.result c.len-len.result c.index.result.now = record {
      order = omega arith;
      within = omega arith;
      published = omega (arith, c.version.ensures.count, ap (λ (v : Version). length v.rows) c.snapshot-latest.ensures);
      own = subst O (sym c.begun.view_is) c.index-begun.ensures;
      taken = c.older-snapshot.ensures ∙ ap (λ (v : Version). older_version v c.args.published) c.snapshot-latest.ensures;
      waits = c.open_between-waiting.ensures ∙ ap (λ (l : List Touch). opens_from (c.args.published + 1) (take (i - c.args.published) (drop c.args.published l))) c.deref.ensures.value;
      long = c.len-len.ensures ∙ ap (λ (x : Cut). length (bytes_of_pages x.pages)) (c.deref-2.ensures ∙ same);
      touched = c.index.ensures;
    } in
    let v : c.args.version ≡ suc i = omega arith in
    record {
      waiting = first_waits c.logs_are_grown.ensures.count c.logs_are_grown.ensures.touches c.logs_are_grown.ensures.sizes c.older_versions_stay.ensures.rows c.older_versions_stay.ensures.extents c.page_bytes_stay.ensures.extents c.windows_stand.ensures.logs b c.self.invariant c.args.published i s c.older-snapshot.result c.open_between-waiting.result c.len-len.result c.index.result.now f;
      version = version_next c.logs_are_grown.ensures.count c.logs_are_grown.ensures.touches c.logs_are_grown.ensures.sizes c.older_versions_stay.ensures.rows c.older_versions_stay.ensures.extents c.page_bytes_stay.ensures.extents c.windows_stand.ensures.logs b c.self.invariant c.args.published i s c.older-snapshot.result c.open_between-waiting.result c.len-len.result c.index.result.now f c.args.version v;
      of_updates = below_is_log c.logs_are_grown.ensures.count c.logs_are_grown.ensures.touches c.logs_are_grown.ensures.sizes c.older_versions_stay.ensures.rows c.older_versions_stay.ensures.extents c.page_bytes_stay.ensures.extents c.windows_stand.ensures.logs b c.self.invariant c.args.published i s c.older-snapshot.result c.open_between-waiting.result c.len-len.result c.index.result.now f;
      len = c.len-len.ensures ∙ ap (λ (x : Cut). length (bytes_of_pages x.pages)) c.deref-2.ensures;
      some = some_bytes c.logs_are_grown.ensures.count c.logs_are_grown.ensures.touches c.logs_are_grown.ensures.sizes c.older_versions_stay.ensures.rows c.older_versions_stay.ensures.extents c.page_bytes_stay.ensures.extents c.windows_stand.ensures.logs b c.self.invariant c.args.published i s c.older-snapshot.result c.open_between-waiting.result c.len-len.result c.index.result.now f;
      page_size = ap (λ (x : Cut). x.page_size) same ∙ cut_alike c.logs_are_grown.ensures.count c.logs_are_grown.ensures.touches c.logs_are_grown.ensures.sizes c.older_versions_stay.ensures.rows c.older_versions_stay.ensures.extents c.page_bytes_stay.ensures.extents c.windows_stand.ensures.logs b c.self.invariant c.args.published i s c.older-snapshot.result c.open_between-waiting.result c.len-len.result c.index.result.now f;
      at = begins_before c.logs_are_grown.ensures.count c.logs_are_grown.ensures.touches c.logs_are_grown.ensures.sizes c.older_versions_stay.ensures.rows c.older_versions_stay.ensures.extents c.page_bytes_stay.ensures.extents c.windows_stand.ensures.logs b c.self.invariant c.args.published i s c.older-snapshot.result c.open_between-waiting.result c.len-len.result c.index.result.now f c.args.version v;
      size = size_after_it c.logs_are_grown.ensures.count c.logs_are_grown.ensures.touches c.logs_are_grown.ensures.sizes c.older_versions_stay.ensures.rows c.older_versions_stay.ensures.extents c.page_bytes_stay.ensures.extents c.windows_stand.ensures.logs b c.self.invariant c.args.published i s c.older-snapshot.result c.open_between-waiting.result c.len-len.result c.index.result.now f c.args.version v;
      fits = size_fits c.logs_are_grown.ensures.count c.logs_are_grown.ensures.touches c.logs_are_grown.ensures.sizes c.older_versions_stay.ensures.rows c.older_versions_stay.ensures.extents c.page_bytes_stay.ensures.extents c.windows_stand.ensures.logs b c.self.invariant c.args.published i s c.older-snapshot.result c.open_between-waiting.result c.len-len.result c.index.result.now f;
    }

pub returns : goal.returns
returns g c =
    let b : OneBlob = blob_of c.self.inside.nodes c.self.inside.window.numbered c.self.inside.touches.items c.self.inside.begun.items in
    let i : ℕ = c.args.version - 1 in
    let s : Start = record { at = c.begun.inside.at; pages = arc_value c.begun.inside.pages } in
    let O : Start → Type 0 = λ x. x ≡ slice_index_or c.self.inside.begun.items i x in
    let same : arc_value c.shared_again-pages.result ≡ s.pages = c.shared_again-pages.ensures in
    let f : IsPicked b c.args.published i s c.older-snapshot.result c.open_between-waiting.result c.len-len.result c.index.result.now = record {
      order = omega arith;
      within = omega arith;
      published = omega (arith, c.version.ensures.count, ap (λ (v : Version). length v.rows) c.snapshot-latest.ensures);
      own = subst O (sym c.begun.view_is) c.index-begun.ensures;
      taken = c.older-snapshot.ensures ∙ ap (λ (v : Version). older_version v c.args.published) c.snapshot-latest.ensures;
      waits = c.open_between-waiting.ensures ∙ ap (λ (l : List Touch). opens_from (c.args.published + 1) (take (i - c.args.published) (drop c.args.published l))) c.deref.ensures.value;
      long = c.len-len.ensures ∙ ap (λ (x : Cut). length (bytes_of_pages x.pages)) (c.deref-2.ensures ∙ same);
      touched = c.index.ensures;
    } in
    let v : c.args.version ≡ suc i = omega arith in
    let T : OneBlob → Type 0 = λ x. IsTicketOf x c.of.result in
    let N : NumberedUpdate → Type 0 = λ t. IsTicketOf b t in
    let P : Cut → Type 0 = λ x. IsTicketOf b (numbered_update 1 1 c.args.version s.at c.len-len.result c.index.result.now.size c.older-snapshot.result c.open_between-waiting.result x) in
    subst T c.self.view_is (subst N (sym c.of.ensures) (subst P (sym same) (is_ticket c.logs_are_grown.ensures.count c.logs_are_grown.ensures.touches c.logs_are_grown.ensures.sizes c.older_versions_stay.ensures.rows c.older_versions_stay.ensures.extents c.page_bytes_stay.ensures.extents c.windows_stand.ensures.logs b c.self.invariant c.args.published i s c.older-snapshot.result c.open_between-waiting.result c.len-len.result c.index.result.now f 1 1 c.args.version v)))
