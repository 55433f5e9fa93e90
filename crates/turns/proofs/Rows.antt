-- Turns worked out by a program that was written from request A13 alone.
use Rattle.std.proofs.Common.{◌≡◌, ℕ, List, [], ◌∷◌, refl}
use Rattle.turns.specs.declared.Turn.{Turn}
use Rattle.turns.specs.declared.Call.{Call}
use Rattle.turns.specs.declared.Call.TheVariants as calls
use Rattle.turns.specs.Generator.{advanced}
use Rattle.turns.specs.Turns.{turn_of, turn_page, page_of, call_of}

abbrev writes : ℕ → ℕ → Call
writes n b = calls.Write (record { 0 = n }) b

abbrev reads : ℕ → Call
reads n = calls.Read (record { 0 = n })

-- the turns of five classes, four after one another each
abbrev gave : List Turn
gave =
    turn_of 0 0 (record { pages = 6; write = 128; run = 64 }) ∷
    turn_of 3519870697 2 (record { pages = 6; write = 128; run = 64 }) ∷
    turn_of 2670642822 4 (record { pages = 6; write = 128; run = 64 }) ∷
    turn_of 2180890343 1 (record { pages = 6; write = 128; run = 64 }) ∷
    turn_of 1 0 (record { pages = 24; write = 256; run = 0 }) ∷
    turn_of 2165703038 22 (record { pages = 24; write = 256; run = 0 }) ∷
    turn_of 1587069247 0 (record { pages = 24; write = 256; run = 0 }) ∷
    turn_of 70837908 0 (record { pages = 24; write = 256; run = 0 }) ∷
    turn_of 4294967295 0 (record { pages = 262144; write = 0; run = 256 }) ∷
    turn_of 579071060 1 (record { pages = 262144; write = 0; run = 256 }) ∷
    turn_of 3754216397 2 (record { pages = 262144; write = 0; run = 256 }) ∷
    turn_of 4290942778 3 (record { pages = 262144; write = 0; run = 256 }) ∷
    turn_of 2023 0 (record { pages = 1; write = 200; run = 200 }) ∷
    turn_of 4227831388 0 (record { pages = 1; write = 200; run = 200 }) ∷
    turn_of 1034621557 0 (record { pages = 1; write = 200; run = 200 }) ∷
    turn_of 2742306562 0 (record { pages = 1; write = 200; run = 200 }) ∷
    turn_of 99 0 (record { pages = 40; write = 128; run = 128 }) ∷
    turn_of 2601258632 1 (record { pages = 40; write = 128; run = 128 }) ∷
    turn_of 2771041297 2 (record { pages = 40; write = 128; run = 128 }) ∷
    turn_of 3739096782 3 (record { pages = 40; write = 128; run = 128 }) ∷
    []

-- worked out beforehand
abbrev gives : List Turn
gives =
    record { call = writes 2 233; page = 2; state = 3519870697 } ∷
    record { call = reads 4; page = 4; state = 2670642822 } ∷
    record { call = writes 1 231; page = 1; state = 2180890343 } ∷
    record { call = reads 1; page = 1; state = 3167820124 } ∷
    record { call = writes 22 126; page = 22; state = 2165703038 } ∷
    record { call = writes 0 63; page = 0; state = 1587069247 } ∷
    record { call = writes 0 148; page = 0; state = 70837908 } ∷
    record { call = writes 8 13; page = 8; state = 1814098701 } ∷
    record { call = reads 1; page = 1; state = 579071060 } ∷
    record { call = reads 2; page = 2; state = 3754216397 } ∷
    record { call = reads 3; page = 3; state = 4290942778 } ∷
    record { call = reads 4; page = 4; state = 226574251 } ∷
    record { call = writes 0 92; page = 0; state = 4227831388 } ∷
    record { call = writes 0 117; page = 0; state = 1034621557 } ∷
    record { call = writes 0 2; page = 0; state = 2742306562 } ∷
    record { call = reads 0; page = 0; state = 483548947 } ∷
    record { call = writes 1 136; page = 1; state = 2601258632 } ∷
    record { call = writes 2 17; page = 2; state = 2771041297 } ∷
    record { call = writes 3 206; page = 3; state = 3739096782 } ∷
    record { call = writes 34 207; page = 34; state = 2293385423 } ∷
    []

rows : gave ≡ gives
unfolding turn_of turn_page page_of call_of advanced
rows = refl
