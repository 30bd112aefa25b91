use Rattle.std.proofs.Common.{◌≡◌, ◌+◌, List, [], ◌∷◌, ◌++◌, max, arith, ap, sym, ◌∙◌, length}
use Rattle.std.specs.Arc.{arc_value}
use Rattle.tree_geom.specs.Geometry.{touched_by}
use Rattle.range_log.specs.Log.{size_at}
use Rattle.snapshot.specs.Versions.{Version}
use Rattle.page_store.specs.Stored.{Cut, bytes_of_pages}
use Rattle.tree_tests.specs.Blobs.{OneBlob, Start}
use Rattle.tree_tests.proofs.Steady.{blob_of, numbered_blob}
use Rattle.tree_tests.proofs.blob.Blob.number.Goals as goal

pub invariant_of-self : goal.invariant_of-self
invariant_of-self g c =
    let b : OneBlob = blob_of c.self.inside.nodes c.self.inside.window.numbered c.self.inside.touches.items c.self.inside.begun.items in
    let s : Start = record { at = c.args.at; pages = arc_value c.shared-pages.result } in
    let same : s.pages ≡ c.args.pages = c.shared-pages.ensures in
    let size : c.size-size.result ≡ size_at b.touches (length b.touches) = c.size-size.ensures ∙ ap (λ (x : OneBlob). size_at x.touches (length x.touches)) (sym c.self.view_is) in
    let own = ap (λ (x : OneBlob). x.window.page_size) (sym c.self.view_is) in
    numbered_blob c.logs_are_grown.ensures.count c.logs_are_grown.ensures.touches c.logs_are_grown.ensures.sizes c.page_bytes_stay.ensures.extents c.windows_stand.ensures.numbered
    b c.self.invariant s c.len-len.result c.touched-touch.result.size c.touched-touch.result c.number.new.self.numbered c.push_reserved.new.self.items c.push_reserved-2.new.self.items
    (ap (λ (x : Cut). x.page_size) same ∙ c.requires.page_size ∙ own) (c.len-len.ensures ∙ ap (λ (x : Cut). length (bytes_of_pages x.pages)) (sym same)) (omega (arith, c.requires.some, c.len-len.ensures)) (omega (arith, size))
    (c.touched-touch.ensures.size ∙ c.max.ensures ∙ ap (λ n. max n (c.args.at + c.len-len.result)) size) (omega (arith, c.touched-touch.ensures.size, c.max.ensures))
    (c.touched-touch.ensures.is ∙ ap (λ p. touched_by p c.args.at c.len-len.result c.max.result) (c.page_size-p.ensures ∙ ap (λ (v : Version). v.page_size) c.snapshot.ensures) ∙ ap (touched_by c.self.inside.window.numbered.page_size c.args.at c.len-len.result) (sym c.touched-touch.ensures.size))
    c.number.ensures.numbered (c.push_reserved.ensures.items ∙ ap (λ l. l ++ c.touched-touch.result ∷ []) c.reserve.ensures.items) (c.push_reserved-2.ensures.items ∙ ap (λ (l : List Start). l ++ s ∷ []) c.reserve-2.ensures.items)
