-- A line as its bytes come, a CR among them.
use Rattle.std.proofs.Common.{IfOk, ◌≡◌, ◌≢◌, ◌∙◌, ℕ, ◌+◌, ◌-◌, ◌<◌, ◌≤◌, ◌==◌, Bool, true, false, List, [], ◌∷◌, ◌++◌, length, take, drop, Result, Ok, Err, OnOk, refl, sym, ap, subst, arith, append_assoc, append-nil, take-add, length-drop, length-append, Option}
use Rattle.std.specs.Str.Lines.{strip_carriage_return}
use Rattle.std.proofs.lemmas.Bool.{ne_eqb}
use Rattle.std.proofs.lemmas.List.Elements.{All-nil, All-cons, All-append, All-drop}
use Rattle.items.specs.Lines.{Lining, item_of_text, item_of, lined}
use Rattle.items.specs.Text.{IsWithout, EndsPlain}
use Rattle.items.specs.BegunLine.{GoesOnAs, SaysAs, begun_text, IsBegun, Pushes, PushesAll, return_text, IsLine, TakesSome}
use Rattle.items.specs.declared.begun_line.Begun.{Begun}
use Rattle.items.specs.declared.begun_line.Begun.TheVariants.{Text, Comment, Bad}
use Rattle.items.proofs.LinesHeard.{goes_on}
use Rattle.items.proofs.Texts.{item_behind, item_plain, plain_behind}

pub one_without : (c b : ℕ) → b ≢ c → IsWithout c (b ∷ [])
one_without c b h = All-cons (λ x. (x == c) ≡ false) b [] (ne_eqb b c h) (All-nil (λ x. (x == c) ≡ false))

begun_without : {B : Type 0} (limit : ℕ) (text : B → List ℕ) (b : Begun B) (n : ℕ) → IsBegun limit text b n → IsWithout 10 (begun_text text b)
begun_without limit text (Text body) n h = h.0.no_feed
begun_without limit text Comment n h = one_without 10 35 (λ e. omega arith)
begun_without limit text Bad n h = one_without 10 32 (λ e. omega arith)

return_without : (r : Bool) → IsWithout 10 (return_text r)
return_without true = one_without 10 13 (λ e. omega arith)
return_without false = All-nil (λ x. (x == 10) ≡ false)

-- no line feed stands in a line
pub line_without : {B : Type 0} (limit : ℕ) (text : B → List ℕ) (b : Begun B) (n : ℕ) (r : Bool) → IsBegun limit text b n → IsWithout 10 (begun_text text b ++ return_text r)
line_without limit text b n r h = All-append (λ x. (x == 10) ≡ false) (begun_text text b) (return_text r) (begun_without limit text b n h) (return_without r)

-- what a whole line says
pub item_whole : {A B : Type 0} (f : Lining A) (limit : ℕ) (text : B → List ℕ) (b : Begun B) (n : ℕ) (r : Bool) → IsLine limit text b n r → item_of f (begun_text text b ++ return_text r) ≡ item_of_text f (begun_text text b)
item_whole f limit text b n true h = item_behind f (begun_text text b) (13 ∷ []) (omega arith) ∙ ap (λ (l : List ℕ). item_of_text f l) (append-nil (begun_text text b))
item_whole f limit text b n false h = item_plain f (begun_text text b) [] (h.plain refl) ∙ ap (λ (l : List ℕ). item_of_text f l) (append-nil (begun_text text b))

-- the same of what was said of it
pub says_whole : {A E : Type 0} (f : Lining A) (r : Result (Option A) E) (line text : List ℕ) → item_of f line ≡ item_of_text f text → IfOk r (λ item. item_of_text f text ≡ item) → IfOk r (λ item. item_of f line ≡ item)
says_whole f (Ok item) line text same h = same ∙ h
says_whole f (Err e) line text same h = tt

-- ---- runs

-- more bytes of a run, behind those that have come
pub pushes_on : {A : Type 0} (f : Lining A) (text run mid slice text' : List ℕ) (taken count : ℕ) → taken ≤ length run → slice ≡ drop taken run → SaysAs f (text ++ take taken run) mid → Pushes f mid slice text' count
    → (taken + count ≤ length run) × SaysAs f (text ++ take (taken + count) run) text' × (IsWithout 13 run → EndsPlain text')
pushes_on f text run mid slice text' taken count within is before p =
    let there : length slice ≡ length run - taken = ap (λ (l : List ℕ). length l) is ∙ length-drop taken run in
    let part : take taken run ++ take count slice ≡ take (taken + count) run = ap (λ (l : List ℕ). take taken run ++ take count l) is ∙ sym (take-add taken count run) in
    let few = p.within in (
      omega arith,
      λ more.
          ap (λ (l : List ℕ). item_of_text f ((text ++ l) ++ more)) (sym part)
          ∙ ap (λ (l : List ℕ). item_of_text f (l ++ more)) (sym (append_assoc text (take taken run) (take count slice)))
          ∙ ap (λ (l : List ℕ). item_of_text f l) (append_assoc (text ++ take taken run) (take count slice) more)
          ∙ before (take count slice ++ more)
          ∙ ap (λ (l : List ℕ). item_of_text f l) (sym (append_assoc mid (take count slice) more))
          ∙ p.says more,
      λ out. p.ends (subst (IsWithout 13) (sym is) (All-drop (λ x. (x == 13) ≡ false) taken run out)),
    )

-- ---- bytes behind a line

-- a text that goes on the same, in a line
text_goes : {A : Type 0} (f : Lining A) (text run text' : List ℕ) → IsWithout 10 text → IsWithout 10 run → IsWithout 10 text' → EndsPlain (text ++ run) → EndsPlain text' → SaysAs f (text ++ run) text' → GoesOnAs f (text ++ run) text'
text_goes f text run text' without run_without without' ends ends' says =
    goes_on f (text ++ run) text' (All-append (λ x. (x == 10) ≡ false) text run without run_without) without'
    (λ zs. item_plain f (text ++ run) zs ends ∙ says (strip_carriage_return zs) ∙ sym (item_plain f text' zs ends'))

-- the same of what stands before bytes that aren't empty
before_goes : {A : Type 0} (f : Lining A) (text text' run : List ℕ) → IsWithout 10 text → IsWithout 10 text' → IsWithout 10 run → 0 < length run → SaysAs f text text' → GoesOnAs f (text ++ run) (text' ++ run)
before_goes f text text' run without without' run_without some_run says =
    goes_on f (text ++ run) (text' ++ run) (All-append (λ x. (x == 10) ≡ false) text run without run_without) (All-append (λ x. (x == 10) ≡ false) text' run without' run_without)
    (λ zs. behind text zs ∙ says (strip_carriage_return (run ++ zs)) ∙ sym (behind text' zs))
  where
    behind : (t zs : List ℕ) → item_of f ((t ++ run) ++ zs) ≡ item_of_text f (t ++ strip_carriage_return (run ++ zs))
    behind t zs = ap (λ (l : List ℕ). item_of f l) (append_assoc t run zs) ∙ item_behind f t (run ++ zs) (let l = length-append run zs in omega arith)

-- a CR behind one: the first was not the line's end
pub return_again : {B A : Type 0} (f : Lining A) (limit : ℕ) (text : B → List ℕ) (b b' : Begun B) (n n' : ℕ) (r : Bool) (line : List ℕ) → begun_text text b ++ return_text r ≡ line → r ≡ true → IsBegun limit text b n → IsBegun limit text b' n'
    → PushesAll f (begun_text text b) (13 ∷ []) (begun_text text b') → GoesOnAs f (line ++ 13 ∷ []) (begun_text text b' ++ return_text true)
return_again f limit text b b' n n' r line seen there begun begun' p more =
    let old = begun_text text b in
    ap (λ (l : List ℕ). lined f ((l ++ 13 ∷ []) ++ more)) (sym seen ∙ ap (λ (t : Bool). old ++ return_text t) there)
    ∙ before_goes f (old ++ 13 ∷ []) (begun_text text b') (13 ∷ []) (All-append (λ x. (x == 10) ≡ false) old (13 ∷ []) (begun_without limit text b n begun) (return_without true)) (begun_without limit text b' n' begun') (return_without true) (omega arith) p.says more

-- bytes without a CR, where none waits
pub run_comes : {B A : Type 0} (f : Lining A) (limit : ℕ) (text : B → List ℕ) (b b' : Begun B) (n n' : ℕ) (r : Bool) (line run : List ℕ) → begun_text text b ++ return_text r ≡ line → r ≡ false → IsBegun limit text b n → IsBegun limit text b' n'
    → 0 < length run → IsWithout 10 run → IsWithout 13 run → PushesAll f (begun_text text b) run (begun_text text b') → GoesOnAs f (line ++ run) (begun_text text b' ++ return_text false)
run_comes f limit text b b' n n' r line run seen none begun begun' some_run feed out p more =
    let old = begun_text text b in
    let new = begun_text text b' in
    ap (λ (l : List ℕ). lined f ((l ++ run) ++ more)) (sym seen ∙ ap (λ (t : Bool). old ++ return_text t) none ∙ append-nil old)
    ∙ text_goes f old run new (begun_without limit text b n begun) feed (begun_without limit text b' n' begun') (plain_behind old run some_run out) (p.ends some_run out) p.says more
    ∙ ap (λ (l : List ℕ). lined f (l ++ more)) (sym (append-nil new))

-- and where one waits, which was not the line's end
pub run_comes_behind : {B A : Type 0} (f : Lining A) (limit : ℕ) (text : B → List ℕ) (b m b' : Begun B) (n k n' : ℕ) (r : Bool) (line run : List ℕ) → begun_text text b ++ return_text r ≡ line → r ≡ true
    → IsBegun limit text b n → IsBegun limit text m k → IsBegun limit text b' n' → 0 < length run → IsWithout 10 run → IsWithout 13 run → PushesAll f (begun_text text b) (13 ∷ []) (begun_text text m) → PushesAll f (begun_text text m) run (begun_text text b')
    → GoesOnAs f (line ++ run) (begun_text text b' ++ return_text false)
run_comes_behind f limit text b m b' n k n' r line run seen there begun mid begun' some_run feed out p q more =
    let old = begun_text text b in
    let new = begun_text text b' in
    ap (λ (l : List ℕ). lined f ((l ++ run) ++ more)) (sym seen ∙ ap (λ (t : Bool). old ++ return_text t) there)
    ∙ before_goes f (old ++ 13 ∷ []) (begun_text text m) run (All-append (λ x. (x == 10) ≡ false) old (13 ∷ []) (begun_without limit text b n begun) (return_without true)) (begun_without limit text m k mid) feed some_run p.says more
    ∙ text_goes f (begun_text text m) run new (begun_without limit text m k mid) feed (begun_without limit text b' n' begun') (plain_behind (begun_text text m) run some_run out) (q.ends some_run out) q.says more
    ∙ ap (λ (l : List ℕ). lined f (l ++ more)) (sym (append-nil new))

-- the same where memory may be refused
pub return_again_ok : {B A E : Type 0} (f : Lining A) (res : Result (Unit {0}) E) (limit : ℕ) (text : B → List ℕ) (b b' : Begun B) (n n' : ℕ) (r : Bool) (line run : List ℕ) → begun_text text b ++ return_text r ≡ line → r ≡ true → run ≡ 13 ∷ []
    → IsBegun limit text b n → IsBegun limit text b' n' → OnOk res (PushesAll f (begun_text text b) run (begun_text text b')) → OnOk res (GoesOnAs f (line ++ 13 ∷ []) (begun_text text b' ++ return_text r))
return_again_ok f (Ok u) limit text b b' n n' r line run seen there is begun begun' p =
    let q = subst (λ (l : List ℕ). PushesAll f (begun_text text b) l (begun_text text b')) is p in
    subst (λ (t : Bool). GoesOnAs f (line ++ 13 ∷ []) (begun_text text b' ++ return_text t)) (sym there) (return_again f limit text b b' n n' r line seen there begun begun' q)
return_again_ok f (Err e) limit text b b' n n' r line run seen there is begun begun' p = tt

pub run_comes_ok : {B A E : Type 0} (f : Lining A) (res : Result (Unit {0}) E) (limit : ℕ) (text : B → List ℕ) (b b' : Begun B) (n n' : ℕ) (r : Bool) (line run : List ℕ) → begun_text text b ++ return_text r ≡ line → r ≡ false
    → IsBegun limit text b n → IsBegun limit text b' n' → 0 < length run → IsWithout 10 run → IsWithout 13 run → OnOk res (PushesAll f (begun_text text b) run (begun_text text b')) → OnOk res (GoesOnAs f (line ++ run) (begun_text text b' ++ return_text r))
run_comes_ok f (Ok u) limit text b b' n n' r line run seen none begun begun' some_run feed out p =
    subst (λ (t : Bool). GoesOnAs f (line ++ run) (begun_text text b' ++ return_text t)) (sym none) (run_comes f limit text b b' n n' r line run seen none begun begun' some_run feed out p)
run_comes_ok f (Err e) limit text b b' n n' r line run seen none begun begun' some_run feed out p = tt

-- ---- more of a piece

-- what comes off the rest of a piece, behind what came off its front
pub takes_on : {A : Type 0} (f : Lining A) (line piece now slice now' : List ℕ) (count more : ℕ) → count ≤ length piece → slice ≡ drop count piece → GoesOnAs f (line ++ take count piece) now → TakesSome f now slice now' more
    → (count + more ≤ length piece) × GoesOnAs f (line ++ take (count + more) piece) now'
takes_on f line piece now slice now' count more within is before t =
    let there : length slice ≡ length piece - count = ap (λ (l : List ℕ). length l) is ∙ length-drop count piece in
    let part : take count piece ++ take more slice ≡ take (count + more) piece = ap (λ (l : List ℕ). take count piece ++ take more l) is ∙ sym (take-add count more piece) in
    let some_more : more ≤ length slice = t.within in (
      omega arith,
      λ zs.
          ap (λ (l : List ℕ). lined f ((line ++ l) ++ zs)) (sym part)
          ∙ ap (λ (l : List ℕ). lined f (l ++ zs)) (sym (append_assoc line (take count piece) (take more slice)))
          ∙ ap (λ (l : List ℕ). lined f l) (append_assoc (line ++ take count piece) (take more slice) zs)
          ∙ before (take more slice ++ zs)
          ∙ ap (λ (l : List ℕ). lined f l) (sym (append_assoc now (take more slice) zs))
          ∙ t.goes_on zs,
    )
