-- The puts of one provider's group, one put at a time.
use Rattle.std.proofs.Common.{◌≡◌, ◌≢◌, ℕ, Bool, true, false, ◌+◌, ◌<◌, List, [], ◌∷◌, ◌++◌, length, map, get_or, take, drop, append-nil, ap, sym, ◌∙◌, refl}
use Rattle.std.specs.Prelude.{filter, ◌==◌}
use Rattle.std.proofs.lemmas.Bool.{eq-eqb, ne_eqb}
use Rattle.std.proofs.lemmas.List.{map-append, length-map, take-append-drop}
use Rattle.std.proofs.lemmas.List.Elements.{filter_more, filter-append}
use Rattle.std.proofs.Math.Seq.{take-append_seam}
use Rattle.page_fan.specs.declared.stand.Put.{Put}
use Rattle.page_fan.specs.declared.stand.PutReply.{PutReply}
use Rattle.page_fan.specs.Stands.{group_of}

-- the first put is one of the group
pub group_own : (provider : ℕ) (put : Put) (puts : List Put) → put.provider ≡ provider → group_of provider (put ∷ puts) ≡ put.at ∷ group_of provider puts
group_own provider put puts own = rw (eq-eqb put.provider provider own) refl

-- or of another
pub group_other : (provider : ℕ) (put : Put) (puts : List Put) → put.provider ≢ provider → group_of provider (put ∷ puts) ≡ group_of provider puts
group_other provider put puts other = rw (ne_eqb put.provider provider other) refl

pub group_append : (provider : ℕ) (puts more : List Put) → group_of provider (puts ++ more) ≡ group_of provider puts ++ group_of provider more
group_append provider puts more =
    let test : Put → Bool = λ p. p.provider == provider in
    let at : Put → ℕ = λ p. p.at in
    ap (map at) (filter-append test puts more) ∙ map-append at (filter test puts) (filter test more)

-- the next put is one of the group
group_next : (provider : ℕ) (puts : List Put) (i : ℕ) (d : Put) → i < length puts → (get_or puts i d).provider ≡ provider
    → group_of provider (take (i + 1) puts) ≡ group_of provider (take i puts) ++ (get_or puts i d).at ∷ []
group_next provider puts i d l own =
    let test : Put → Bool = λ p. p.provider == provider in
    let yes : test (get_or puts i d) ≡ true = eq-eqb (get_or puts i d).provider provider own in
    ap (map (λ (p : Put). p.at)) (rw yes at (filter_more test puts i d l)) ∙ map-append (λ (p : Put). p.at) (filter test (take i puts)) (get_or puts i d ∷ [])

-- the next put is one of another group
pub group_same : (provider : ℕ) (puts : List Put) (i : ℕ) (d : Put) → i < length puts → (get_or puts i d).provider ≢ provider
    → group_of provider (take (i + 1) puts) ≡ group_of provider (take i puts)
group_same provider puts i d l other =
    let test : Put → Bool = λ p. p.provider == provider in
    let no : test (get_or puts i d) ≡ false = ne_eqb (get_or puts i d).provider provider other in
    ap (map (λ (p : Put). p.at)) (rw (no, append-nil (filter test (take i puts))) at (filter_more test puts i d l))

-- replies to the group of the first puts are the first replies to the group of all
pub group_first : (provider : ℕ) (puts : List Put) (i : ℕ) (tray : List PutReply) → map (λ (r : PutReply). r.at) tray ≡ group_of provider (take i puts)
    → map (λ (r : PutReply). r.at) tray ≡ take (length tray) (group_of provider puts)
group_first provider puts i tray is =
    let mine = group_of provider (take i puts) in
    let rest = group_of provider (drop i puts) in
    let whole : group_of provider puts ≡ mine ++ rest = ap (λ ps. group_of provider ps) (sym (take-append-drop i puts)) ∙ group_append provider (take i puts) (drop i puts) in
    let long : length tray ≡ length mine = sym (length-map tray (λ (r : PutReply). r.at)) ∙ ap length is in
    rw (whole, long, take-append_seam mine rest) is

-- one reply more, to the next put
pub reply_next : (provider : ℕ) (puts : List Put) (i : ℕ) (d : Put) (tray new : List PutReply) (reply : PutReply) → i < length puts → (get_or puts i d).provider ≡ provider
    → map (λ (r : PutReply). r.at) tray ≡ group_of provider (take i puts) → new ≡ tray ++ reply ∷ [] → reply.at ≡ (get_or puts i d).at
    → map (λ (r : PutReply). r.at) new ≡ group_of provider (take (i + 1) puts)
reply_next provider puts i d tray new reply l own so_far pushed at =
    ap (map (λ (r : PutReply). r.at)) pushed ∙ (map-append (λ (r : PutReply). r.at) tray (reply ∷ [])
    ∙ (ap (λ xs. xs ++ reply.at ∷ []) so_far ∙ (ap (λ n. group_of provider (take i puts) ++ n ∷ []) at ∙ sym (group_next provider puts i d l own))))
