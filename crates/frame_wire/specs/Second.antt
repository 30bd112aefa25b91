-- What has come of a frame of version 2.
use Rattle.items.specs.Come.{Come}
use Rattle.frame_wire.specs.declared.second.SecondFields.{SecondFields}
use Rattle.frame_wire.specs.declared.second.SecondFields.TheVariants.{First, Paired}

abbrev pub second_come : SecondFields → Come
second_come (First come) = come
second_come (Paired come) = come
