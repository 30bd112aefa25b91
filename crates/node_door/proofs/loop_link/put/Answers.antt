use Rattle.std.proofs.Common.{refl}
use Rattle.page_node.specs.declared.form.NodeReply.TheVariants as Replies
use Rattle.node_door.proofs.Looping.{replied_by, put_refused_after}
use Rattle.node_door.proofs.loop_link.put.Goals as goal

pub returns-in-Err-clause-replied : goal.returns-in-Err-clause-replied
returns-in-Err-clause-replied c =
    let is = c.in-Err.ensures.id c.args.bytes.now refl in
    replied_by _ c.args.room c.args.shelf.now c.args.replies.now.items c.refuse.new.replies.items _ c.refuse.result (Replies.Refused c.in-Err.fault) is (put_refused_after c.args.shelf.now c.args.bytes.now c.in-Err.fault is) refl
    c.refuse.ensures.done c.refuse.ensures.not
