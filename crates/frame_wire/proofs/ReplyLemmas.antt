-- Replies as frames, put together from their parts.
use Rattle.std.proofs.Common.{◌≡◌, ◌∙◌, ℕ, ◌+◌, ◌*◌, ◌<◌, List, [], ◌∷◌, ◌++◌, length, take, get_or, sym, ap, arith, append_assoc, append-nil, length-append}
use Rattle.std.proofs.lemmas.List.{take_more, take_all}
use Rattle.frame_wire.specs.Said.{field, wide_field, fields, frame_of}
use Rattle.items.specs.BegunFrame.{frame_part}
use Rattle.items.proofs.FrameBegun.{frame_part-append}
use Rattle.frame_wire.proofs.RequestLemmas.{field-length, wide_field-length, fields-append, fields-length}

pub framed_is : (n : ℕ) (bytes : List ℕ) → length bytes ≡ n → frame_part n bytes ≡ frame_of bytes
unfolding frame_of frame_part
framed_is n bytes e = ap (λ (k : ℕ). frame_part k bytes) (sym e)

-- one more number
pub numbers_more : (n operation i : ℕ) (ns : List ℕ) → i < length ns → frame_part n (operation ∷ fields (take i ns)) ++ field (get_or ns i 0) ≡ frame_part n (operation ∷ fields (take (i + 1) ns))
numbers_more n operation i ns less =
    frame_part-append n (operation ∷ fields (take i ns)) (field (get_or ns i 0))
    ∙ ap (λ (l : List ℕ). frame_part n (operation ∷ l)) (ap (λ (l : List ℕ). fields (take i ns) ++ l) (sym (append-nil (field (get_or ns i 0))))
    ∙ sym (fields-append (take i ns) (get_or ns i 0 ∷ [])) ∙ ap (λ (l : List ℕ). fields l) (sym (take_more ns i 0 less)))

-- all numbers
pub framed_numbers : (operation : ℕ) (ns : List ℕ) → frame_part (1 + 8 * length ns) (operation ∷ fields (take (length ns) ns)) ≡ frame_of (operation ∷ fields ns)
framed_numbers operation ns =
    ap (λ (l : List ℕ). frame_part (1 + 8 * length ns) (operation ∷ fields l)) (take_all (length ns) ns (omega arith))
    ∙ framed_is (1 + 8 * length ns) (operation ∷ fields ns) (let l = fields-length ns in omega arith)

-- bytes behind a frame's front
pub framed_bytes : (operation count : ℕ) (bytes : List ℕ) → length bytes ≡ count → frame_part (1 + count) (operation ∷ []) ++ bytes ≡ frame_of (operation ∷ bytes)
framed_bytes operation count bytes e = frame_part-append (1 + count) (operation ∷ []) bytes ∙ framed_is (1 + count) (operation ∷ bytes) (omega (arith, e))

pub framed_range : (refusal end size : ℕ) → ((frame_part 33 (255 ∷ []) ++ field refusal) ++ wide_field end) ++ field size ≡ frame_of (255 ∷ (field refusal ++ (wide_field end ++ field size)))
framed_range refusal end size =
    append_assoc (frame_part 33 (255 ∷ []) ++ field refusal) (wide_field end) (field size)
    ∙ append_assoc (frame_part 33 (255 ∷ [])) (field refusal) (wide_field end ++ field size)
    ∙ frame_part-append 33 (255 ∷ []) (field refusal ++ (wide_field end ++ field size))
    ∙ framed_is 33 (255 ∷ (field refusal ++ (wide_field end ++ field size)))
    (let a = length-append (field refusal) (wide_field end ++ field size) in
    let b = length-append (wide_field end) (field size) in
    let x = field-length refusal in let y = wide_field-length end in let z = field-length size in omega arith)
