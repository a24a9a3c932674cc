use Rattle.std.proofs.Common.{ap, sym, List, map, subst}
use Rattle.kif_text.specs.View.{view as expression, views}
use Rattle.kif_text.specs.declared.expr.Expr.{Expr}
use Rattle.ground_rules.specs.Roles.{RoleTable}
use Rattle.numbered_rules.specs.Numbered.{rules_of}
use Rattle.ground_rules.specs.declared.ground_game.GroundGame.{GroundGame}
use Rattle.ground_rules.specs.Described.{IsGameOf}
use Rattle.ground_rules.specs.Internal.Resolved.{NameTable, table_of}
use Rattle.ground_rules.specs.GroundGames.{tables_of}
use Rattle.ground_rules.specs.Lawfulness.LoadedGameLaws.{loaded_game_laws}
use Rattle.ground_rules.specs.LoadedGame.{loaded_game}
use Rattle.ground_rules.specs.Internal.Vocabularies.{IsVocabularyOf}
use Rattle.rule_sentences.specs.SentenceFaults.{description_of}
use Rattle.ground_rules.specs.Internal.GameParts.{AreGameParts}
use Rattle.ground_rules.proofs.Assembled.{game-of-tables}
use Rattle.ground_rules.proofs.ground_game.GroundGame.new.Goals as goal

assembled : (t : NameTable) (g : GroundGame) (xs : List Expr) (roles : List RoleTable) → IsVocabularyOf xs roles t g.vocabulary
    → AreGameParts (description_of (map expression xs)) t roles (rules_of g.rules.rest.items) (rules_of g.rules.turn.items) → IsGameOf (description_of (map expression xs)) (loaded_game (tables_of g))
assembled t g xs roles v p =
    let w = g.vocabulary in
    let lawful = loaded_game_laws (views w.description.items) (tables_of g) w.some_role w.few_roles w.tables w.names_differ w.names_spelled w.states_ordered w.states_spelled w.moves_ordered w.moves_spelled in
    let parts = subst (λ (rs : List RoleTable). AreGameParts (description_of (map expression xs)) t rs (rules_of g.rules.rest.items) (rules_of g.rules.turn.items)) (sym v.roles') p in
    game-of-tables (map expression xs) t (tables_of g) lawful parts v.states v.moves v.init v.next v.terminal v.atoms

pub returns-clause-game : goal.returns-clause-game
returns-clause-game c = assembled (table_of c.args.parts.names) (record { vocabulary = c.in_ok-vocabulary.vocabulary; rules = c.args.parts.rules }) c.args.description.items c.args.parts.roles.items c.in_ok-vocabulary.ensures c.requires

pub returns-clause-description : goal.returns-clause-description
returns-clause-description c = ap (map expression) c.in_ok-vocabulary.ensures.description'
