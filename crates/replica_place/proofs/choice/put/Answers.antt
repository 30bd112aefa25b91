use Rattle.replica_place.proofs.Insertions.{put_mid-rotated}
use Rattle.replica_place.proofs.choice.put.Goals as goal

pub returns : goal.returns
returns c = put_mid-rotated c.args.kept.now _ c.args.position c.args.provider c.requires c.rotate_right.ensures.after
