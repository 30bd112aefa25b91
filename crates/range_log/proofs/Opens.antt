-- Lists of waiting updates.
use Rattle.std.proofs.Common.{◌≡◌, ℕ, ◌+◌, ◌-◌, ◌<◌, List, [], ◌∷◌, ◌++◌, length, arith, inl, inr, ap, sym, ◌∙◌, get_or, length-append}
use Rattle.std.proofs.lemmas.Bool.{cases_lt}
use Rattle.std.proofs.lemmas.List.{get_or_append_left}
use Rattle.std.proofs.Math.Seq.{get_or-append_seam}
use Rattle.range_log.specs.declared.open.OpenTouch.{OpenTouch}
use Rattle.range_log.specs.Open.{no_open, open_at, Rises}

pub rises_push : (xs : List OpenTouch) (o : OpenTouch) → Rises xs → (0 < length xs → o.version ≡ (open_at xs (length xs - 1)).version + 1) → Rises (xs ++ o ∷ [])
rises_push xs o rises next i lt =
    let count : length (xs ++ o ∷ []) ≡ length xs + 1 = length-append xs (o ∷ []) in
    let here : get_or (xs ++ o ∷ []) i no_open ≡ get_or xs i no_open = get_or_append_left xs (o ∷ []) no_open i (omega arith) in
    let V : OpenTouch → ℕ = λ (x : OpenTouch). x.version in
    elim (cases_lt (i + 1) (length xs)) [
      | inl within ↦
          ap V (get_or_append_left xs (o ∷ []) no_open (i + 1) within) ∙ rises i within ∙ ap (λ x. V x + 1) (sym here)
      | inr last ↦
          let e : i + 1 ≡ length xs = omega arith in
          let f : length xs - 1 ≡ i = omega arith in
          ap V (ap (λ k. get_or (xs ++ o ∷ []) k no_open) e ∙ get_or-append_seam xs o [] no_open)
          ∙ next (omega arith)
          ∙ ap (λ k. V (get_or xs k no_open) + 1) f
          ∙ ap (λ x. V x + 1) (sym here)
    ]
