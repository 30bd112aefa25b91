-- A blob to which pieces of one size are appended.
use Rattle.std.proofs.Common.{◌≡◌, ℕ, ◌+◌, ◌*◌, List, [], ◌∷◌, ◌++◌, length, take, drop, map, refl, sym, ◌∙◌, ap, append_assoc, append-nil, arith}
use Rattle.std.specs.List.{flat_map, All}
use Rattle.std.proofs.lemmas.List.{length-append, take_all, take_at, drop_at, drop_all}
use Rattle.std.proofs.lemmas.List.Elements.{All-head, All-tail}
use Rattle.blob_model.specs.Content.{Update, put, offset_of, content_from}
use Rattle.blob_model.specs.declared.call.Place.{Place}
use Rattle.blob_model.specs.declared.call.Place.TheVariants.{Append}
use Rattle.workload_law.specs.Pieces.{pieces}

pub put_end : (c b : List ℕ) → put c (length c) b ≡ c ++ b
put_end c b =
    let front : take (length c) c ≡ c = take_all (length c) c (omega arith) in
    let back : drop (length c + length b) c ≡ [] = drop_all (length c + length b) c (omega arith) in
    ap (λ (l : List ℕ). l ++ b ++ drop (length c + length b) c) front ∙ (ap (λ (l : List ℕ). c ++ b ++ l) back ∙ append-nil (c ++ b))

-- an append of a piece of that size
pub record Appends (size : ℕ) (u : Update) : Type 0 where
  pub place : u.place ≡ Append
  pub sized : length u.bytes ≡ size

module _ (size : ℕ) where
  -- what appends leave
  pub appended : (c : List ℕ) (us : List Update) → All (Appends size) us → content_from c us ≡ c ++ flat_map (λ u. u.bytes) us
  appended c [] all = sym (append-nil c)
  appended c (u ∷ us) all =
      let here : Appends size u = All-head (Appends size) u us all in
      let next : put c (offset_of u.place (length c)) u.bytes ≡ c ++ u.bytes = ap (λ (p : Place). put c (offset_of p (length c)) u.bytes) here.place ∙ put_end c u.bytes in
      ap (λ (l : List ℕ). content_from l us) next
      ∙ (appended (c ++ u.bytes) us (All-tail (Appends size) u us all)
      ∙ append_assoc c u.bytes (flat_map (λ u. u.bytes) us))

  -- the length of what they leave
  pub appended_length : (us : List Update) → All (Appends size) us → length (flat_map (λ u. u.bytes) us) ≡ size * length us
  appended_length [] all = omega arith
  appended_length (u ∷ us) all =
      let here : length u.bytes ≡ size = (All-head (Appends size) u us all).sized in
      let more = appended_length us (All-tail (Appends size) u us all) in
      let both = length-append u.bytes (flat_map (λ u. u.bytes) us) in
      omega (arith, here, more, both)

  -- its pieces are those that were appended
  pub appended_pieces : (us : List Update) → All (Appends size) us → pieces size (length us) (flat_map (λ u. u.bytes) us) ≡ map (λ u. u.bytes) us
  appended_pieces [] all = refl
  appended_pieces (u ∷ us) all =
      let here : length u.bytes ≡ size = (All-head (Appends size) u us all).sized in
      let rest : List ℕ = flat_map (λ u. u.bytes) us in
      let first : take size (u.bytes ++ rest) ≡ u.bytes = take_at u.bytes rest size here in
      let past : drop size (u.bytes ++ rest) ≡ rest = drop_at u.bytes rest size here in
      ap (λ (l : List ℕ). l ∷ pieces size (length us) (drop size (u.bytes ++ rest))) first
      ∙ (ap (λ (l : List ℕ). u.bytes ∷ pieces size (length us) l) past
      ∙ ap (λ (l : List (List ℕ)). u.bytes ∷ l) (appended_pieces us (All-tail (Appends size) u us all)))
