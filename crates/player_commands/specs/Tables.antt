-- The table of a check.
use Rattle.std.specs.Prelude.{◌≡◌, ℕ, false, List, [], ◌∷◌, ◌++◌, Option, Some, None, codes, string_bytes}
use Rattle.std.specs.Fmt.{decimal}
use Rattle.game_core.specs.Bytes.{tab, line_feed}
use Rattle.match_log.specs.ShownTexts.{shown_text}
use Rattle.player_commands.specs.declared.role_turns.RoleTurn.{RoleTurn}
use Rattle.player_commands.specs.Rows.{later_turns, next_turn, row_verdict}
use Rattle.player_commands.specs.Verdicts.{is_refused, verdict_text}
use Rattle.player_commands.specs.declared.watched.Exchange.{Exchange}

-- the text of the move in a turn; empty if there is no turn
abbrev pub played_text : Option RoleTurn → List ℕ
played_text None = []
played_text (Some turn) = turn.played

abbrev pub column : List ℕ → List ℕ → List ℕ
column text columns = text ++ tab ∷ columns

-- a row with this explanation in its last column
abbrev pub row_text : List ℕ → Exchange → Option RoleTurn → List ℕ → List ℕ
row_text role exchange turn words =
    column (shown_text role)
    (column (string_bytes exchange.message)
    (column (string_bytes exchange.answer)
    (column (verdict_text (row_verdict exchange turn))
    (column (shown_text (played_text turn))
    (column (decimal exchange.millis) (words ++ line_feed ∷ []))))))

-- The text is the row of an exchange with this turn. The explanation may be any text, but it is empty if there is no error and the answer
-- was not rejected as a move.
pub record IsRow (role : List ℕ) (exchange : Exchange) (turn : Option RoleTurn) (text : List ℕ) : Type 0 where
  pub words : List ℕ
  pub no_words : exchange.fault ≡ None → is_refused (row_verdict exchange turn) ≡ false → words ≡ []
  pub is_text : text ≡ row_text role exchange turn words

-- The text consists of the rows of the exchanges, in order. The exchanges that ask for a move have these turns, in order.
abbrev pub AreRows : List ℕ → List Exchange → List RoleTurn → List ℕ → Type 0
AreRows role [] turns text = text ≡ []
AreRows role (exchange ∷ exchanges) turns text = (row : List ℕ) × (rows : List ℕ) × IsRow role exchange (next_turn exchange.is_play turns) row
    × AreRows role exchanges (later_turns exchange.is_play turns) rows × (text ≡ row ++ rows)

abbrev pub header : List ℕ
header = codes "role\tmessage\tanswer\tverdict\tplayed\tms\tfault\n"
