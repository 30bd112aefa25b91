-- What a desk keeps of its windows, and of one of them that changes or is new.
use Rattle.std.proofs.Common.{◌≡◌, ℕ, ◌-◌, ◌<◌, ◌≤◌, ◌^◌, List, [], ◌∷◌, ◌++◌, length, set, suc, sym, subst, arith}
use Rattle.std.specs.Prelude.{Option, All}
use Rattle.std.proofs.lemmas.List.{map-append, map-set, length-map}
use Rattle.std.proofs.lemmas.List.Elements.{All-push, All-set}
use Rattle.boxcar.specs.Table.{Shelves}
use Rattle.branching.specs.declared.Parent.{Parent}
use Rattle.blob_model.specs.Limits.{Bounds}
use Rattle.blob_model.specs.History.{store_of}
use Rattle.blob_model.specs.declared.call.Event.{Event}
use Rattle.page_store.specs.House.{House}
use Rattle.publisher.specs.Windows.{Numbered, WindowState}
use Rattle.version_manager.specs.declared.waiting.WaitingUpdate.{WaitingUpdate}
use Rattle.version_manager.specs.Desks.{no_window}
use Rattle.version_manager.specs.DeskInvariant.{KeepsDesk, IsDesk, seen_in, numbered_of}
use Rattle.version_manager.specs.Origins.{parents_after, parents_of, AreUnder, KeepsOrigins}
use Rattle.version_manager.proofs.Desks.{IsAt}
use Rattle.version_manager.proofs.Houses.{AreRowsIn, window_lies}
use Rattle.version_manager.proofs.Orders.{IsEventInOrder, order_more}
use Rattle.version_manager.proofs.Origins.{origins_at, origins_set, origins_pushed, origins_after}

module _ {limits : Bounds} {p : ℕ} {houses : List House} {nodes : List Shelves} {h : List Event} {ws : List (WindowState WaitingUpdate)} (k : IsDesk limits p houses nodes h ws) where
  -- of a window that was found
  pub lies_at : (blob index : ℕ) (w : WindowState WaitingUpdate) → IsAt k.kept blob index w → AreRowsIn nodes houses w.numbered
  lies_at blob index w x = window_lies nodes houses (numbered_of ws) (blob - 1) w.numbered no_window k.lies (omega (arith, x.some, x.within, length-map ws seen_in)) x.window

  pub under_at : (blob index : ℕ) (w : WindowState WaitingUpdate) → IsAt k.kept blob index w → AreUnder (parents_of h) blob w.numbered.rows
  under_at blob index w x = origins_at (parents_of h) (numbered_of ws) k.origins blob w.numbered no_window x.some (omega (arith, x.within, length-map ws seen_in)) x.window

  -- an event that changes the window of one blob
  pub desk_changed : (h' : List Event) (e : Event) (blob index : ℕ) (w : WindowState WaitingUpdate) → h' ≡ h ++ e ∷ [] → index ≡ blob - 1 → 1 ≤ blob → parents_after (parents_of h) e ≡ parents_of h
      → KeepsDesk limits p houses (h ++ e ∷ []) (set ws (blob - 1) w) → AreRowsIn nodes houses w.numbered → AreUnder (parents_of h) blob w.numbered.rows → length h' < 2 ^ 38
      → IsEventInOrder p (store_of limits h) e → IsDesk limits p houses nodes h' (set ws index w)
  desk_changed h' e blob index w history at some same keeps lies under short order =
      let ns : List Numbered = set (numbered_of ws) (blob - 1) w.numbered in
      let seen : numbered_of (set ws (blob - 1) w) ≡ ns = map-set seen_in ws (blob - 1) w in
      let origins : KeepsOrigins (parents_of h) ns = origins_set (parents_of h) (numbered_of ws) k.origins blob w.numbered some under in
      let here : IsDesk limits p houses nodes h' (set ws (blob - 1) w) = record {
        kept = subst (λ (l : List Event). KeepsDesk limits p houses l (set ws (blob - 1) w)) (sym history) keeps;
        lies = subst (λ (l : List Numbered). All (AreRowsIn nodes houses) l) (sym seen) (All-set (AreRowsIn nodes houses) (numbered_of ws) (blob - 1) w.numbered lies k.lies);
        origins = origins_after h h' e ns _ history seen (subst (λ (l : List (Option Parent)). KeepsOrigins l ns) (sym same) origins);
        short = short;
        in_order = order_more p limits h h' e history k.in_order order;
      } in
      subst (λ (i : ℕ). IsDesk limits p houses nodes h' (set ws i w)) (sym at) here

  -- an event that makes a blob
  pub desk_and : (h' : List Event) (e : Event) (next : Option Parent) (w : WindowState WaitingUpdate) (ws' : List (WindowState WaitingUpdate)) → h' ≡ h ++ e ∷ [] → ws' ≡ ws ++ w ∷ []
      → parents_after (parents_of h) e ≡ next ∷ parents_of h → KeepsDesk limits p houses (h ++ e ∷ []) (ws ++ w ∷ []) → AreRowsIn nodes houses w.numbered
      → AreUnder (next ∷ parents_of h) (suc (length ws)) w.numbered.rows → length h' < 2 ^ 38 → IsEventInOrder p (store_of limits h) e → IsDesk limits p houses nodes h' ws'
  desk_and h' e next w ws' history more same keeps lies under short order =
      let ns : List Numbered = numbered_of ws ++ w.numbered ∷ [] in
      let seen : numbered_of (ws ++ w ∷ []) ≡ ns = map-append seen_in ws (w ∷ []) in
      let own : AreUnder (next ∷ parents_of h) (suc (length (numbered_of ws))) w.numbered.rows =
      subst (λ (n : ℕ). AreUnder (next ∷ parents_of h) (suc n) w.numbered.rows) (sym (length-map ws seen_in)) under in
      let origins : KeepsOrigins (next ∷ parents_of h) ns = origins_pushed (parents_of h) (numbered_of ws) k.origins next w.numbered own in
      let here : IsDesk limits p houses nodes h' (ws ++ w ∷ []) = record {
        kept = subst (λ (l : List Event). KeepsDesk limits p houses l (ws ++ w ∷ [])) (sym history) keeps;
        lies = subst (λ (l : List Numbered). All (AreRowsIn nodes houses) l) (sym seen) (All-push (AreRowsIn nodes houses) (numbered_of ws) w.numbered k.lies lies);
        origins = origins_after h h' e ns _ history seen (subst (λ (l : List (Option Parent)). KeepsOrigins l ns) (sym same) origins);
        short = short;
        in_order = order_more p limits h h' e history k.in_order order;
      } in
      subst (λ (l : List (WindowState WaitingUpdate)). IsDesk limits p houses nodes h' l) (sym more) here
