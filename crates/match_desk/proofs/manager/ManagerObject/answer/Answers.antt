use Rattle.match_desk.proofs.manager.ManagerObject.answer.Goals as goal

pub returns-in-Next-clause-reply : goal.returns-in-Next-clause-reply
returns-in-Next-clause-reply g c = rw (c.in-Next.is, ← c.as_slice.ensures) c.next_reply.ensures.reply

pub returns-in-Next-clause-accepted : goal.returns-in-Next-clause-accepted
returns-in-Next-clause-accepted g c = rw (c.in-Next.is, ← c.as_slice.ensures) c.next_reply.ensures.accepted

pub returns-in-Next-clause-memory : goal.returns-in-Next-clause-memory
returns-in-Next-clause-memory g c = rw (c.in-Next.is, ← c.as_slice.ensures) c.next_reply.ensures.memory
