use Rattle.page_fan.proofs.storing.put_in_groups.Given as goal

abbrev pub ghost-join_pages : goal.ghost-join_pages
ghost-join_pages g a = g.before
