-- `token_writer::put` meets its contract. Assumes nothing.
use native.Mathlib.Omega.{arith}
use Rattle.laws.proofs.Putting.{put_none, put_more}
use Rattle.token_writer.proofs.put.Goals as goal

pub put_token-requires : goal.put_token-requires
put_token-requires c = let u = rw c.in-One.is at c.requires in omega arith

pub put_token-second-requires : goal.put_token-second-requires
put_token-second-requires c = let u = rw c.in-Two.is at c.requires in omega arith

pub put_token-requires-in-Two : goal.put_token-requires-in-Two
put_token-requires-in-Two c =
    let u = rw c.in-Two.is at c.requires in
    omega (arith, c.put_token-second.ensures.ends, c.put_token-second.ensures.room)

pub put_token-second-requires-in-Three : goal.put_token-second-requires-in-Three
put_token-second-requires-in-Three c = let u = rw c.in-Three.is at c.requires in omega arith

pub put_token-third-requires : goal.put_token-third-requires
put_token-third-requires c =
    let u = rw c.in-Three.is at c.requires in
    omega (arith, c.put_token-second-in-Three.ensures.ends, c.put_token-second-in-Three.ensures.room)

pub put_token-requires-in-Three : goal.put_token-requires-in-Three
put_token-requires-in-Three c =
    let u = rw c.in-Three.is at c.requires in
    omega (arith, c.put_token-second-in-Three.ensures.ends, c.put_token-second-in-Three.ensures.room, c.put_token-third.ensures.ends, c.put_token-third.ensures.room)

pub returns-in-Nothing : goal.returns-in-Nothing
returns-in-Nothing c = rw c.in-Nothing.is (put_none _ _)

pub returns-in-One : goal.returns-in-One
returns-in-One c = rw c.in-One.is c.put_token.ensures

pub returns-in-Two : goal.returns-in-Two
returns-in-Two c = rw c.in-Two.is (put_more c.put_token-second.ensures c.put_token-in-Two.ensures)

pub returns-in-Three : goal.returns-in-Three
returns-in-Three c =
    rw c.in-Three.is
    (put_more c.put_token-second-in-Three.ensures (put_more c.put_token-third.ensures c.put_token-in-Three.ensures))
