mod Arguments
mod AtomicLists
mod FoldedLists
mod LiteralLists
mod RuleLists
