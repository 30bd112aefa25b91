use Rattle.std.proofs.Common.{refl, length}
use Rattle.file_layer.specs.Sessions.{files_of}
use Rattle.file_layer.proofs.Lying.{places_ok}
use Rattle.file_layer.proofs.session.FileSession.places.Goals as goal

pub returns : goal.returns
returns g c =
    places_ok (files_of c.args.self.now) c.args.snapshot.now.page_size (length c.args.self.now.session.store.fixed.houses) c.args.offset c.args.count c.places_uncounted.result c.requires.of_store.page_size refl
    c.places_uncounted.ensures.which (c.places_uncounted.ensures.lie c.args.self.now.session.store.fixed.houses c.requires.of_store.here.1)
