use Rattle.worked.proofs.full_desks.a_desk_of_two_calls_makes_no_third.Given as goal

abbrev pub ghosts-fill_desk : goal.ghosts-fill_desk
ghosts-fill_desk g a = record { name = a.blank.name; parts = a.blank.parts }
