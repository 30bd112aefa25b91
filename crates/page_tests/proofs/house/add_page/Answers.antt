use Rattle.std.proofs.Common.{rules, ◌≡◌, ◌++◌, [], ◌∷◌}
use Rattle.std.proofs.lemmas.List.Elements.{All-push}
use Rattle.page_store.specs.Page.{Page, IsIn}
use Rattle.page_tests.proofs.house.add_page.Goals as goal

pub returns : goal.returns
returns g c =
    let pages = c.args.pages.now.items in
    let more : c.push.new.self.items ≡ pages ++ c.args.page ∷ [] = search rules in
    rw more (All-push (λ (page : Page). IsIn c.args.house.now page.spot) pages c.args.page c.requires.all c.requires.this)
