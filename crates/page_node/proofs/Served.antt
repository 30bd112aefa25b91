-- A stream of frames that was served.
use Rattle.std.proofs.Common.{◌≡◌, ◌∙◌, ℕ, List, [], ◌++◌, length, Option, refl, ap, subst, append-nil}
use Rattle.items.specs.Items.{ItemStream}
use Rattle.server_core.specs.Talk.{PointOf}
use Rattle.server_core.specs.Conversing.{Progress}
use Rattle.server_core.specs.Conversed.{Input, Conversed, Ended, ConversedExactly}
use Rattle.server_core.specs.declared.flow.End.{End}
use Rattle.server_core.specs.declared.flow.End.TheVariants as Ends
use Rattle.server_core.proofs.Conversed.{Conversed-none}
use Rattle.page_node.specs.declared.form.NodeHeard.{NodeHeard}
use Rattle.page_node.specs.Node.{Node, is_quit}
use Rattle.page_node.specs.Frames.{heard}
use Rattle.page_node.specs.Transcript.{node_talk, Says, WroteNode, ServedNode}

abbrev pub PointAt : Type 0
PointAt = PointOf Node

-- what was answered, where all of it was written
all_said : (old : PointAt) (items : List NodeHeard) (rest : List ℕ) (new : PointAt) (p : Progress node_talk [] old items rest new) → rest ≡ [] → Says old.session items p.out new.session
all_said old items rest new p none = record {
  replies = p.replies;
  run = p.run;
  says = p.says ∙ ap (λ (l : List ℕ). p.out ++ l) none ∙ append-nil p.out;
}

as_all : (node : Node) (items all : List NodeHeard) (text : List ℕ) (node' : Node) → items ≡ all → Says node items text node' → Says node all text node'
as_all node items all text node' e s = subst (λ (l : List NodeHeard). Says node l text node') e s

pub wrote : (old : PointAt) (stream : ItemStream NodeHeard) (taken limit : ℕ) (items : List NodeHeard) (rest : List ℕ) (new : PointAt) (left : Option (List ℕ)) (end : End)
    → (p : Progress node_talk [] old items rest new) → Ended is_quit stream taken limit items rest left end → WroteNode old.session stream p.out new.session end
wrote old stream taken limit items rest new left Ends.Quit p e = (as_all old.session items _ p.out new.session e.0.0 (all_said old items rest new p e.0.1), e.1)
wrote old stream taken limit items rest new left Ends.InputEnd p e = as_all old.session items _ p.out new.session e.0.0 (all_said old items rest new p e.0.1)
wrote old stream taken limit items rest new left Ends.Cut p e = as_all old.session items _ p.out new.session e.0.0 (all_said old items rest new p e.0.1)
wrote old stream taken limit items rest new left Ends.ReadFault p e = as_all old.session items _ p.out new.session e.0.0 (all_said old items rest new p e.0.1)
wrote old stream taken limit items rest new left Ends.InputTooLong p e = as_all old.session items _ p.out new.session e.0.0 (all_said old items rest new p e.0.1)
wrote old stream taken limit items rest new left Ends.WriteFault p e =
    (rest, e.1, record { answered = items; first = e.0; says = record { replies = p.replies; run = p.run; says = p.says } })
wrote old stream taken limit items rest new left Ends.NoMemory p e =
    (rest, record { answered = items; first = e; says = record { replies = p.replies; run = p.run; says = p.says } })

-- a stream whose conversation is known
pub as_served : ConversedExactly node_talk → (old : Node) (written : Option (List ℕ)) (before after : Input) (limit : ℕ) (new : Node) (written' : Option (List ℕ)) (end : End)
    → Conversed node_talk (record { session = old; faults = 0; written = written }) heard before after limit (record { session = new; faults = 0; written = written' }) end
    → ServedNode old written before after limit new written' end
as_served exact old written before after limit new written' end c = record {
  conversed = c;
  wrote =
      wrote (record { session = old; faults = 0; written = written }) (heard c.taken) (length c.taken) limit c.items c.rest (record { session = new; faults = 0; written = written' }) after.left end
      c.progress c.ended;
  exactly = exact (record { session = old; faults = 0; written = written }) heard before after limit (record { session = new; faults = 0; written = written' }) end c;
}

-- a stream of which nothing was served
pub as_unserved : ConversedExactly node_talk → (old : Node) (written : Option (List ℕ)) (before : Input) (limit : ℕ) → ServedNode old written before before limit old written Ends.NoMemory
as_unserved exact old written before limit =
    as_served exact old written before before limit old written Ends.NoMemory (Conversed-none node_talk (record { session = old; faults = 0; written = written }) heard before limit refl)

-- the same of a talk whose frames have nothing yet
pub as_served_from : ConversedExactly node_talk → (fed : List ℕ) → fed ≡ [] → (old old' : Node) (written : Option (List ℕ)) (before after : Input) (limit : ℕ) (new new' : Node) (written' : Option (List ℕ)) (end : End)
    → old ≡ old' → new ≡ new'
    → Conversed node_talk (record { session = old; faults = 0; written = written }) (λ more. heard (fed ++ more)) before after limit (record { session = new; faults = 0; written = written' }) end
    → ServedNode old' written before after limit new' written' end
as_served_from exact fed none old old' written before after limit new new' written' end was same c =
    subst (λ (n : Node). ServedNode old' written before after limit n written' end) same
    (subst (λ (n : Node). ServedNode n written before after limit new written' end) was
    (as_served exact old written before after limit new written' end
    (subst (λ (l : List ℕ). Conversed node_talk (record { session = old; faults = 0; written = written }) (λ more. heard (l ++ more)) before after limit (record { session = new; faults = 0; written = written' }) end) none c)))
