-- How bytes that are held are written.
use Rattle.std.proofs.Common.{◌≡◌, ◌⊎◌, ℕ, ◌<◌, List, [], ◌++◌, length, take, drop, length-append, length-drop, inl, inr, refl, sym, ◌∙◌, ap, subst, append_assoc, take-append-drop, arith}
use Rattle.std.specs.Prelude.{Option}
use Rattle.std.specs.Io.KnownBytes.{Appends}
use Rattle.std.proofs.KnownBytes.{Appends-nil, Appends-trans}
use Rattle.ports.specs.Stream.{appended_bytes, LeavesOut}
use Rattle.ports.specs.declared.stream.Written.{Written}
use Rattle.ports.specs.declared.stream.Written.TheVariants.{Whole, Failed}
use Rattle.server_core.specs.declared.flow.Flow.{Flow}
use Rattle.server_core.specs.declared.flow.Flow.TheVariants as Flows
use Rattle.server_core.specs.Conversing.{Writes, IsPut, IsSettled}

-- a write that failed left some bytes out
pub Writes-part : (held text : List ℕ) (n : ℕ) (a b : Option (List ℕ)) → n < length held → Appends a b (take n held) → (rest : List ℕ) × (0 < length rest) × Writes held text a b rest
Writes-part held text n a b h adds = (
  drop n held ++ text,
  omega (arith, length-append (drop n held) text, length-drop n held, h),
  record { out = take n held; joins = ap (λ (x : List ℕ). x ++ text) (sym (take-append-drop n held)) ∙ append_assoc (take n held) (drop n held) text; adds = adds },
)

pub Writes-first : (text : List ℕ) (n : ℕ) (a b : Option (List ℕ)) → n < length text → Appends a b (take n text) → (rest : List ℕ) × (0 < length rest) × Writes [] text a b rest
Writes-first text n a b h adds = (drop n text, omega (arith, length-drop n text, h), record { out = take n text; joins = sym (take-append-drop n text); adds = adds })

after_held : (held text : List ℕ) (a b c : Option (List ℕ)) (rest : List ℕ) → Appends a b held → Writes [] text b c rest → Writes held text a c rest
after_held held text a b c rest adds w = record {
  out = held ++ w.out;
  joins = ap (λ (x : List ℕ). held ++ x) w.joins ∙ sym (append_assoc held w.out rest);
  adds = Appends-trans a b c held w.out adds w.adds;
}

-- a text was put after all that was held was written
pub put_after : (held text : List ℕ) (a b c : Option (List ℕ)) (held' : List ℕ) (flow : Flow) → Appends a b held → IsPut [] text b held' c flow → IsPut held text a held' c flow
put_after held text a b c held' Flows.Goes adds w = after_held held text a b c held' adds w
put_after held text a b c held' Flows.Quits adds none = none
put_after held text a b c held' Flows.WriteFault adds w = (w.0, w.1, after_held held text a b c w.0 adds w.2)
put_after held text a b c held' Flows.NoMemory adds w = (w.0, after_held held text a b c (held' ++ w.0) adds w.1)

-- what was held was written, as far as it was
pub flushed : (held : List ℕ) (a b : Option (List ℕ)) (w : Written) → LeavesOut held w → Appends a b (appended_bytes held w) → (rest : List ℕ) × Writes held [] a b rest
flushed held a b Whole h adds = ([], record { out = held; joins = refl; adds = adds })
flushed held a b (Failed n) h adds = let part = Writes-part held [] n a b h adds in (part.0, part.2)

-- a write failed after a step that would have gone on, or quit
pub settled_fault : (held : List ℕ) (a b : Option (List ℕ)) (flow : Flow) → (flow ≡ Flows.Goes) ⊎ (flow ≡ Flows.Quits) → (rest : List ℕ) × (0 < length rest) × Writes held [] a b rest → IsSettled held a b flow Flows.WriteFault
settled_fault held a b flow (inl e) part = subst (λ (s : Flow). IsSettled held a b s Flows.WriteFault) (sym e) (inr (refl, part))
settled_fault held a b flow (inr e) part = subst (λ (s : Flow). IsSettled held a b s Flows.WriteFault) (sym e) (inr (refl, part))

-- a text that wasn't said is left unsaid
pub put_none : (held text : List ℕ) (a : Option (List ℕ)) → IsPut held text a held a Flows.NoMemory
put_none held text a = (text, record { out = []; joins = refl; adds = Appends-nil a })

module _ (held head body : List ℕ) (a b : Option (List ℕ)) where
  -- a body that stands behind a head isn't written yet
  unwritten_body : (rest : List ℕ) → Writes held head a b rest → Writes held (head ++ body) a b (rest ++ body)
  unwritten_body rest w = record {
    out = w.out;
    joins = sym (append_assoc held head body) ∙ ap (λ (x : List ℕ). x ++ body) w.joins ∙ append_assoc w.out rest body;
    adds = w.adds;
  }

  -- a write of the head failed
  pub head_fault : (held' : List ℕ) → IsPut held head a held' b Flows.WriteFault → IsPut held (head ++ body) a held' b Flows.WriteFault
  head_fault held' w = (w.0 ++ body, rw (length-append w.0 body) (omega (arith, w.1)), unwritten_body w.0 w.2)

  -- there was no memory for the head
  pub head_unsaid : (held' : List ℕ) → IsPut held head a held' b Flows.NoMemory → IsPut held (head ++ body) a held' b Flows.NoMemory
  head_unsaid held' w = (w.0 ++ body, subst (Writes held (head ++ body) a b) (append_assoc held' w.0 body) (unwritten_body (held' ++ w.0) w.1))

  module _ (mid : List ℕ) (first : Writes held head a b mid) (c : Option (List ℕ)) where
    -- a text behind a head, where so much was still held
    then_body : (rest : List ℕ) → Writes mid body b c rest → Writes held (head ++ body) a c rest
    then_body rest w = record {
      out = first.out ++ w.out;
      joins = sym (append_assoc held head body) ∙ ap (λ (x : List ℕ). x ++ body) first.joins ∙ append_assoc first.out mid body
          ∙ ap (λ (x : List ℕ). first.out ++ x) w.joins ∙ sym (append_assoc first.out w.out rest);
      adds = Appends-trans a b c first.out w.out first.adds w.adds;
    }

    -- a body was put behind its head
    pub put_body : (held' : List ℕ) (flow : Flow) → IsPut mid body b held' c flow → IsPut held (head ++ body) a held' c flow
    put_body held' Flows.Goes w = then_body held' w
    put_body held' Flows.Quits none = none
    put_body held' Flows.WriteFault w = (w.0, w.1, then_body w.0 w.2)
    put_body held' Flows.NoMemory w = (w.0, then_body (held' ++ w.0) w.1)
