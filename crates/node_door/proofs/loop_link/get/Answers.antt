use Rattle.std.proofs.Common.{◌∙◌, ◌++◌, List, ℕ, refl, ap, arith}
use Rattle.page_node.specs.declared.form.NodeReply.TheVariants as Replies
use Rattle.node_door.proofs.Looping.{replied_by, got_by}
use Rattle.node_door.proofs.loop_link.get.Goals as goal

pub overflow_cast-bytes : goal.overflow_cast-bytes
overflow_cast-bytes c = omega (arith, c.in-Ok.ensures.few)

pub given_front-front-requires : goal.given_front-front-requires
given_front-front-requires c = omega (arith, c.in-Ok.ensures.few)

pub returns-in-Ok-clause-replied : goal.returns-in-Ok-clause-replied
returns-in-Ok-clause-replied c =
    replied_by _ c.args.room c.args.shelf.now c.args.replies.now.items c.add.new.replies.items _ c.add.result (Replies.Given c.in-Ok.bytes.now)
    (got_by c.args.shelf.now _ _ _ _ _ _ _ c.number_at-id.ensures c.number_at-from.ensures c.number_at-length.ensures c.in-Ok.ensures.given) refl
    (ap (λ (l : List ℕ). l ++ c.in-Ok.bytes.now) c.as_slice.ensures.value ∙ c.given_front-front.ensures c.in-Ok.bytes.now refl) c.add.ensures.done c.add.ensures.not

pub returns-in-Err-clause-replied : goal.returns-in-Err-clause-replied
returns-in-Err-clause-replied c =
    replied_by _ c.args.room c.args.shelf.now c.args.replies.now.items c.refuse.new.replies.items _ c.refuse.result (Replies.Refused c.in-Err.fault)
    (got_by c.args.shelf.now _ _ _ _ _ _ _ c.number_at-id.ensures c.number_at-from.ensures c.number_at-length.ensures c.in-Err.ensures.refused) refl refl c.refuse.ensures.done c.refuse.ensures.not
