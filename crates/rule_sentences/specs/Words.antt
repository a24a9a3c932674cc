-- The reserved words of GDL.
use Rattle.std.specs.Prelude.{ℕ, if◌then◌else◌, List, codes, bytes_eq}
use Rattle.rule_sentences.specs.declared.words.Word.{Word}
use Rattle.rule_sentences.specs.declared.words.Word.TheVariants.{Role, Init, True, Next, Does, Legal, Goal, Terminal, If, Not, Or, Distinct, And, Plain}

abbrev pub word_of : List ℕ → Word
word_of w =
    if bytes_eq w (codes "role") then Role else (
    if bytes_eq w (codes "init") then Init else (
    if bytes_eq w (codes "true") then True else (
    if bytes_eq w (codes "next") then Next else (
    if bytes_eq w (codes "does") then Does else (
    if bytes_eq w (codes "legal") then Legal else (
    if bytes_eq w (codes "goal") then Goal else (
    if bytes_eq w (codes "terminal") then Terminal else (
    if bytes_eq w (codes "<=") then If else (
    if bytes_eq w (codes "not") then Not else (
    if bytes_eq w (codes "or") then Or else (
    if bytes_eq w (codes "distinct") then Distinct else (
    if bytes_eq w (codes "and") then And else Plain))))))))))))
