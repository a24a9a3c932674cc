use Rattle.match_desk.proofs.laws.match_laws.Goals as goal

pub returns : goal.returns
returns g c = λ game. record {
  new = c.new_match_is_lawful.ensures game;
  answers = c.answers_keep_lawful.ensures game;
  aborts = c.abort_keeps_lawful.ensures game;
  legal = c.recorded_moves_are_legal.ensures game;
  named = c.no_error_means_named.ensures game;
  in_play = c.answers_in_play.ensures game;
  for_round = c.taken_for_the_round.ensures game;
  starting = c.stages_are_settled.ensures.starting game;
  playing = c.stages_are_settled.ensures.playing game;
}
