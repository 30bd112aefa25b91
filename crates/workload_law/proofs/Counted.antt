-- A blob's updates and its finished versions, counted by events.
use Rattle.std.proofs.Common.{◌≡◌, ℕ, ◌+◌, ◌-◌, ◌≤◌, ◌==◌, Bool, true, false, cond, if◌then◌else◌, List, [], ◌∷◌, ◌++◌, length, refl, sym, ◌∙◌, ap, append_assoc, append-nil, arith}
use Rattle.std.specs.Prelude.{Some, slice_index_or}
use Rattle.std.specs.List.{count_by, flat_map}
use Rattle.std.proofs.lemmas.Bool.Decides.{nat_tests}
use Rattle.std.proofs.lemmas.Bool.{ne_eqb}
use Rattle.std.proofs.lemmas.List.{length-append}
use Rattle.std.proofs.lemmas.List.Sums.{sum_by-cons, sum_by-append, sum_by-set}
use Rattle.blob_model.specs.Content.{Update}
use Rattle.blob_model.specs.Store.{Store, Blob, blob_at, and_update, finish, published, assigned, true_prefix, is_finished}
use Rattle.blob_model.specs.Answer.{answer}
use Rattle.blob_model.specs.History.{store_from, caller_of, call_of, IsAccepted, IsLegalFrom}
use Rattle.blob_model.specs.declared.call.Event.{Event}
use Rattle.blob_model.specs.declared.call.Event.TheVariants as Events
use Rattle.blob_model.proofs.Marks.{AllEven, even_at, event_even, even_is}
use Rattle.workload_law.proofs.Blobs.{updated, updated_all, event_updates, finish_accepted}

-- the update that an event makes in the blob of that id
abbrev pub update_in : ℕ → Event → List Update
update_in id (Events.Create caller) = []
update_in id (Events.Assign caller blob place bytes) = if blob == id then record { caller = caller; place = place; bytes = bytes } ∷ [] else []
update_in id (Events.Finish caller blob version) = []
update_in id (Events.Branch caller blob version) = []

abbrev pub updates_in : ℕ → List Event → List Update
updates_in id es = flat_map (update_in id) es

-- who finishes a version of that blob by the event
abbrev pub finisher_in : ℕ → Event → List ℕ
finisher_in id (Events.Create caller) = []
finisher_in id (Events.Assign caller blob place bytes) = []
finisher_in id (Events.Finish caller blob version) = if blob == id then caller ∷ [] else []
finisher_in id (Events.Branch caller blob version) = []

abbrev pub finishers_in : ℕ → List Event → List ℕ
finishers_in id es = flat_map (finisher_in id) es

abbrev pub trues : List Bool → ℕ
trues bs = count_by (λ b. b) bs

-- ---- one event
assign_updates : (same : Bool) (b : Blob) (u : Update) → (if same then and_update b u else b).updates ≡ b.updates ++ (if same then u ∷ [] else [])
assign_updates true b u = refl
assign_updates false b u = sym (append-nil b.updates)

finish_updates : (same : Bool) (b : Blob) (version : ℕ) → (if same then finish b version else b).updates ≡ b.updates ++ []
finish_updates true b version = sym (append-nil b.updates)
finish_updates false b version = sym (append-nil b.updates)

updates_step : (id : ℕ) (b : Blob) (e : Event) → (updated id b e).updates ≡ b.updates ++ update_in id e
updates_step id b (Events.Create caller) = sym (append-nil b.updates)
updates_step id b (Events.Assign caller blob place bytes) = assign_updates (blob == id) b _
updates_step id b (Events.Finish caller blob version) = finish_updates (blob == id) b version
updates_step id b (Events.Branch caller blob version) = sym (append-nil b.updates)

assign_trues : (same : Bool) (b : Blob) (u : Update) → trues (if same then and_update b u else b).finished ≡ trues b.finished + 0
assign_trues true b u = sum_by-append (λ (t : Bool). cond t 1 0) b.finished (false ∷ [])
assign_trues false b u = omega arith

not_there : (version : ℕ) (found : Bool) → 1 ≤ version → (if version == 0 then true else found) ≡ false → found ≡ false
not_there version found some e = ap (λ (t : Bool). if t then true else found) (sym (ne_eqb version 0 (λ same. omega arith))) ∙ e

finish_trues : (b : Blob) (version : ℕ) → length b.finished ≡ length b.updates → is_finished b version ≡ false → 1 ≤ version → version ≤ assigned b
    → trues (finish b version).finished ≡ trues b.finished + 1
finish_trues b version counted unfinished some there =
    let was : slice_index_or b.finished (version - 1) false ≡ false = not_there version _ some unfinished in
    let set = sum_by-set (λ (t : Bool). cond t 1 0) b.finished (version - 1) true false (omega arith) in
    let none : ◌≡◌ {A = ℕ} (cond (slice_index_or b.finished (version - 1) false) 1 0) 0 = ap (λ (t : Bool). cond t 1 0) was in
    omega (arith, set, none)

one_more : (same : Bool) (b : Blob) (version caller : ℕ) → (same ≡ true → trues (finish b version).finished ≡ trues b.finished + 1)
    → trues (if same then finish b version else b).finished ≡ trues b.finished + length (let l : List ℕ = (if same then caller ∷ [] else []) in l)
one_more true b version caller h = h refl
one_more false b version caller h = omega arith

trues_step : (s : Store) (id : ℕ) (b : Blob) (e : Event) → length b.finished ≡ length b.updates → blob_at s id ≡ Some b → IsAccepted s e
    → trues (updated id b e).finished ≡ trues b.finished + length (finisher_in id e)
trues_step s id b (Events.Create caller) counted at ok = omega arith
trues_step s id b (Events.Assign caller blob place bytes) counted at ok = assign_trues (blob == id) b _
trues_step s id b (Events.Finish caller blob version) counted at ok =
    one_more (blob == id) b version caller (λ same.
    let here : blob ≡ id = grind (arith, nat_tests) in
    let there : blob_at s blob ≡ Some b = ap (λ (i : ℕ). blob_at s i) here ∙ at in
    let accepted = finish_accepted s caller blob version b there ok in
    finish_trues b version counted accepted.0 accepted.1.0 accepted.1.1)
trues_step s id b (Events.Branch caller blob version) counted at ok = omega arith

-- ---- all events
pub store_updated : (s : Store) (es : List Event) (id : ℕ) (b : Blob) → blob_at s id ≡ Some b → IsLegalFrom s es → blob_at (store_from s es) id ≡ Some (updated_all id b es)
store_updated s [] id b at legal = at
store_updated s (e ∷ es) id b at legal =
    store_updated (answer s (caller_of e) (call_of e)).0 es id (updated id b e) (event_updates s e id b at legal.0.accepted) legal.1

pub all_updates : (id : ℕ) (b : Blob) (es : List Event) → (updated_all id b es).updates ≡ b.updates ++ updates_in id es
all_updates id b [] = sym (append-nil b.updates)
all_updates id b (e ∷ es) =
    all_updates id (updated id b e) es
    ∙ (ap (λ (us : List Update). us ++ updates_in id es) (updates_step id b e) ∙ append_assoc b.updates (update_in id e) (updates_in id es))

pub all_trues : (s : Store) (id : ℕ) (b : Blob) (es : List Event) → AllEven s.blobs → blob_at s id ≡ Some b → IsLegalFrom s es
    → trues (updated_all id b es).finished ≡ trues b.finished + length (finishers_in id es)
all_trues s id b [] even at legal = omega arith
all_trues s id b (e ∷ es) even at legal =
    let more = all_trues (answer s (caller_of e) (call_of e)).0 id (updated id b e) es (event_even s e even) (event_updates s e id b at legal.0.accepted) legal.1 in
    let step = trues_step s id b e (even_is b (even_at s id b even at)) at legal.0 in
    let both = length-append (finisher_in id e) (finishers_in id es) in
    omega (arith, more, step, both)

-- ---- where as many were finished as numbered, nothing waits
trues_fit : (bs : List Bool) → trues bs ≤ length bs
trues_fit [] = omega arith
trues_fit (true ∷ bs) = omega (arith, sum_by-cons (λ (t : Bool). cond t 1 0) true bs, trues_fit bs)
trues_fit (false ∷ bs) = omega (arith, sum_by-cons (λ (t : Bool). cond t 1 0) false bs, trues_fit bs)

prefix_all : (bs : List Bool) → trues bs ≡ length bs → true_prefix bs ≡ length bs
prefix_all [] e = refl
prefix_all (true ∷ bs) e =
    let more : trues bs ≡ length bs = omega (arith, sum_by-cons (λ (t : Bool). cond t 1 0) true bs) in
    omega (arith, prefix_all bs more)
prefix_all (false ∷ bs) e = absurd (omega (arith, sum_by-cons (λ (t : Bool). cond t 1 0) false bs, trues_fit bs))

pub all_published : (b : Blob) → length b.finished ≡ length b.updates → trues b.finished ≡ length b.updates → published b ≡ assigned b
all_published b counted done = prefix_all b.finished (done ∙ sym counted) ∙ counted
