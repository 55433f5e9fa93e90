-- Openings: their refusals in order, each size at its limits and one past, each option, buffers of wrong lengths, the blank record, and
-- calls after a refused opening.
use mathlib.Core.List.{List, [], ◌∷◌}
use Prim.Native.Nat.{ℕ}
use lib.ListN.{replicate}
use Rattle.model.specs.Sizes.{Sizes, plain_sizes, vacant}
use Rattle.model.specs.Policy.{policy_choice}
use Rattle.model.specs.Calls.{open_done, refused, Call, read, write, part, step, flush, Page, Buffers, Opened, open_store}
use Rattle.model.specs.Calls.{Store, Result, call}
use Rattle.model.specs.Formats.{store_format}
use Rattle.model.proofs.AuditRows.{Row, directory_of}

-- a refused opening leaves the blank record, on which every call is refused 4
abbrev pub blank-record : Row
blank-record = record {
  sizes = plain_sizes 0 2 3 2 1 9;
  wear = 0 ∷ 0 ∷ 0 ∷ [];
  calls = read 0 [] ∷ write 0 [] ∷ step ∷ flush ∷ [];
  gives = record {
    opening = refused 1 vacant;
    answers = refused 4 vacant ∷ refused 4 vacant ∷ refused 4 vacant ∷ refused 4 vacant ∷ [];
    pages = [] ∷ [] ∷ [] ∷ [] ∷ [];
    sizes = plain_sizes 0 0 0 0 0 0;
    slots = [];
    frames = [];
    valid = [];
    recency = [];
    uses = [];
    flash = [];
    pspace = [];
    bspace = [];
    wear = 0 ∷ 0 ∷ 0 ∷ [];
  };
}

-- refusal 2 looks at the lent buffers at opening, and refusal 3 at the wear
abbrev pub short-wear : Row
short-wear = record {
  sizes = plain_sizes 1 2 3 2 1 9;
  wear = 0 ∷ 0 ∷ [];
  calls = [];
  gives = record {
    opening = refused 2 vacant;
    answers = [];
    pages = [];
    sizes = plain_sizes 0 0 0 0 0 0;
    slots = [];
    frames = [];
    valid = [];
    recency = [];
    uses = [];
    flash = 255 ∷ 255 ∷ 255 ∷ 255 ∷ 255 ∷ 255 ∷ [];
    pspace = 0 ∷ 0 ∷ [];
    bspace = 0 ∷ 0 ∷ [];
    wear = 0 ∷ 0 ∷ [];
  };
}

--
abbrev pub overworn : Row
overworn = record {
  sizes = plain_sizes 1 2 3 2 1 9;
  wear = 0 ∷ 10 ∷ 0 ∷ [];
  calls = [];
  gives = record {
    opening = refused 3 vacant;
    answers = [];
    pages = [];
    sizes = plain_sizes 0 0 0 0 0 0;
    slots = [];
    frames = [];
    valid = [];
    recency = [];
    uses = [];
    flash = 255 ∷ 255 ∷ 255 ∷ 255 ∷ 255 ∷ 255 ∷ [];
    pspace = 0 ∷ 0 ∷ [];
    bspace = 0 ∷ 0 ∷ [];
    wear = 0 ∷ 10 ∷ 0 ∷ [];
  };
}

-- a page buffer of another length is refused 2, before the page number is looked at
abbrev pub page-buffer : Row
page-buffer = record {
  sizes = plain_sizes 1 2 3 2 1 9;
  wear = 0 ∷ 9 ∷ 0 ∷ [];
  calls = write 0 (1 ∷ 2 ∷ []) ∷ read 9 [] ∷ write 9 (1 ∷ []) ∷ [];
  gives = record {
    opening = open_done;
    answers = refused 2 vacant ∷ refused 2 vacant ∷ refused 5 vacant ∷ [];
    pages = (1 ∷ 2 ∷ []) ∷ [] ∷ (1 ∷ []) ∷ [];
    sizes = plain_sizes 1 2 3 2 1 9;
    slots = vacant ∷ vacant ∷ [];
    frames = vacant ∷ [];
    valid = 0 ∷ [];
    recency = 0 ∷ [];
    uses = 0 ∷ [];
    flash = 255 ∷ 255 ∷ 255 ∷ 255 ∷ 255 ∷ 255 ∷ [];
    pspace = 0 ∷ 0 ∷ [];
    bspace = 0 ∷ 0 ∷ [];
    wear = 0 ∷ 9 ∷ 0 ∷ [];
  };
}

-- after an opening refused 1 every call is refused 4, and the record stays blank
abbrev pub after-size : Row
after-size = record {
  sizes = plain_sizes 1 1 3 2 1 9;
  wear = 0 ∷ 0 ∷ 0 ∷ [];
  calls = read 0 (7 ∷ []) ∷ write 0 (7 ∷ []) ∷ part 0 0 (1 ∷ []) (7 ∷ []) ∷ step ∷ flush ∷ [];
  gives = record {
    opening = refused 1 vacant;
    answers = refused 4 vacant ∷ refused 4 vacant ∷ refused 4 vacant ∷ refused 4 vacant ∷ refused 4 vacant ∷ [];
    pages = (7 ∷ []) ∷ (7 ∷ []) ∷ (7 ∷ []) ∷ [] ∷ [] ∷ [];
    sizes = plain_sizes 0 0 0 0 0 0;
    slots = [];
    frames = [];
    valid = [];
    recency = [];
    uses = [];
    flash = 255 ∷ 255 ∷ 255 ∷ [];
    pspace = 0 ∷ 0 ∷ [];
    bspace = 0 ∷ [];
    wear = 0 ∷ 0 ∷ 0 ∷ [];
  };
}

-- after an opening refused 3 every call is refused 4, though sizes and buffers would do
abbrev pub after-overworn : Row
after-overworn = record {
  sizes = plain_sizes 1 2 3 2 1 9;
  wear = 0 ∷ 10 ∷ 0 ∷ [];
  calls = read 0 (7 ∷ []) ∷ write 0 (7 ∷ []) ∷ part 0 0 (1 ∷ []) (7 ∷ []) ∷ step ∷ flush ∷ [];
  gives = record {
    opening = refused 3 vacant;
    answers = refused 4 vacant ∷ refused 4 vacant ∷ refused 4 vacant ∷ refused 4 vacant ∷ refused 4 vacant ∷ [];
    pages = (7 ∷ []) ∷ (7 ∷ []) ∷ (7 ∷ []) ∷ [] ∷ [] ∷ [];
    sizes = plain_sizes 0 0 0 0 0 0;
    slots = [];
    frames = [];
    valid = [];
    recency = [];
    uses = [];
    flash = 255 ∷ 255 ∷ 255 ∷ 255 ∷ 255 ∷ 255 ∷ [];
    pspace = 0 ∷ 0 ∷ [];
    bspace = 0 ∷ 0 ∷ [];
    wear = 0 ∷ 10 ∷ 0 ∷ [];
  };
}

abbrev pub openings : List Row
openings = blank-record ∷ short-wear ∷ overworn ∷ page-buffer ∷ after-size ∷ after-overworn ∷ []

-- ---- openings alone

-- an opening's sizes and buffers, its answer, and the record handed back
pub record Opens : Type 0 where
  pub sizes : Sizes
  pub lent : Buffers
  pub gives : Opened

-- a flash, codes and marks of so many bytes, the wear, a p-space and a b-space of so many bytes
abbrev pub all_lengths : ℕ → ℕ → ℕ → List ℕ → ℕ → ℕ → Buffers
all_lengths flash codes marks wear pspace bspace = record {
  flash = replicate flash 255;
  codes = replicate codes 255;
  marks = replicate marks 0;
  wear = wear;
  pspace = replicate pspace 0;
  bspace = replicate bspace 0;
}

-- without codes and marks
abbrev pub lengths : ℕ → List ℕ → ℕ → ℕ → Buffers
lengths flash wear pspace bspace = all_lengths flash 0 0 wear pspace bspace

-- it is refused for cause r, and the record is blank
abbrev pub refuses_lent : Sizes → Buffers → ℕ → Opens
refuses_lent sz u r = record {
  sizes = sz;
  lent = u;
  gives = record {
    answer = refused r vacant;
    torn = 0;
    cache = record {
      sizes = plain_sizes 0 0 0 0 0 0;
      directory = directory_of [] [] [] []
          [];
    };
  };
}

abbrev pub refuses : Sizes → ℕ → List ℕ → ℕ → ℕ → ℕ → Opens
refuses sz flash wear pspace bspace r = refuses_lent sz (lengths flash wear pspace bspace) r

-- it is accepted with so many torn blocks, and the record has the sizes and is all vacant
abbrev pub opens_torn : Sizes → Buffers → ℕ → Opens
opens_torn sz u torn = record {
  sizes = sz;
  lent = u;
  gives = record { answer = open_done; torn = torn; cache = record { sizes = sz; directory = directory_of [] [] [] [] [] } };
}

-- with none
abbrev pub opens_lent : Sizes → Buffers → Opens
opens_lent sz u = opens_torn sz u 0

abbrev pub opens : Sizes → ℕ → List ℕ → ℕ → ℕ → Opens
opens sz flash wear pspace bspace = opens_lent sz (lengths flash wear pspace bspace)

abbrev pub opened : Opens → Opened
opened r = open_store store_format r.sizes r.lent

abbrev pub opened_listed : Opens → Opened
opened_listed r = r.gives

-- each size one below its limits, at both, and one above, with empty buffers: refused 1 beyond a limit, refused 2 within
abbrev pub limits : List Opens
limits =
    refuses (plain_sizes 0 4 5 6 7 8) 0 [] 0 0 1
    ∷ refuses (plain_sizes 1 4 5 6 7 8) 0 [] 0 0 2
    ∷ refuses (plain_sizes 2048 4 5 6 7 8) 0 [] 0 0 2
    ∷ refuses (plain_sizes 2049 4 5 6 7 8) 0 [] 0 0 1
    ∷ refuses (plain_sizes 3 1 5 6 7 8) 0 [] 0 0 1
    ∷ refuses (plain_sizes 3 2 5 6 7 8) 0 [] 0 0 2
    ∷ refuses (plain_sizes 3 64 5 6 7 8) 0 [] 0 0 2
    ∷ refuses (plain_sizes 3 65 5 6 7 8) 0 [] 0 0 1
    ∷ refuses (plain_sizes 3 4 0 6 7 8) 0 [] 0 0 1
    ∷ refuses (plain_sizes 3 4 1 6 7 8) 0 [] 0 0 2
    ∷ refuses (plain_sizes 3 4 4096 6 7 8) 0 [] 0 0 2
    ∷ refuses (plain_sizes 3 4 4097 6 7 8) 0 [] 0 0 1
    ∷ refuses (plain_sizes 3 4 5 0 7 8) 0 [] 0 0 1
    ∷ refuses (plain_sizes 3 4 5 1 7 8) 0 [] 0 0 2
    ∷ refuses (plain_sizes 3 4 5 128 7 8) 0 [] 0 0 2
    ∷ refuses (plain_sizes 3 4 5 129 7 8) 0 [] 0 0 1
    ∷ refuses (plain_sizes 3 4 5 6 0 8) 0 [] 0 0 1
    ∷ refuses (plain_sizes 3 4 5 6 1 8) 0 [] 0 0 2
    ∷ refuses (plain_sizes 3 4 5 6 8 8) 0 [] 0 0 2
    ∷ refuses (plain_sizes 3 4 5 6 9 8) 0 [] 0 0 1
    ∷ refuses (plain_sizes 3 4 5 6 7 0) 0 [] 0 0 1
    ∷ refuses (plain_sizes 3 4 5 6 7 1) 0 [] 0 0 2
    ∷ refuses (plain_sizes 3 4 5 6 7 1000000) 0 [] 0 0 2
    ∷ refuses (plain_sizes 3 4 5 6 7 1000001) 0 [] 0 0 1
    ∷ []

-- each buffer one too short, then one too long; then two or three causes at once, of which the first counts: 1 and 3; 1 and 2; 1, 2 and
-- 3; 2 and 3, thrice; then wear above W, and at W
abbrev pub causes : List Opens
causes =
    refuses (plain_sizes 1 2 3 2 1 9) 5 (0 ∷ 0 ∷ 0 ∷ []) 2 2 2
    ∷ refuses (plain_sizes 1 2 3 2 1 9) 6 (0 ∷ 0 ∷ []) 2 2 2
    ∷ refuses (plain_sizes 1 2 3 2 1 9) 6 (0 ∷ 0 ∷ 0 ∷ []) 1 2 2
    ∷ refuses (plain_sizes 1 2 3 2 1 9) 6 (0 ∷ 0 ∷ 0 ∷ []) 2 1 2
    ∷ refuses (plain_sizes 1 2 3 2 1 9) 7 (0 ∷ 0 ∷ 0 ∷ []) 2 2 2
    ∷ refuses (plain_sizes 1 2 3 2 1 9) 6 (0 ∷ 0 ∷ 0 ∷ 0 ∷ []) 2 2 2
    ∷ refuses (plain_sizes 1 2 3 2 1 9) 6 (0 ∷ 0 ∷ 0 ∷ []) 3 2 2
    ∷ refuses (plain_sizes 1 2 3 2 1 9) 6 (0 ∷ 0 ∷ 0 ∷ []) 2 3 2
    ∷ refuses (plain_sizes 1 2 3 2 1 0) 6 (1 ∷ 1 ∷ 1 ∷ []) 2 2 1
    ∷ refuses (plain_sizes 1 1 3 2 1 9) 7 (0 ∷ 0 ∷ 0 ∷ []) 2 2 1
    ∷ refuses (plain_sizes 1 1 3 2 1 9) 7 (10 ∷ 10 ∷ 10 ∷ []) 2 2 1
    ∷ refuses (plain_sizes 1 2 3 2 1 9) 7 (10 ∷ 0 ∷ 0 ∷ []) 2 2 2
    ∷ refuses (plain_sizes 1 2 3 2 1 9) 6 (0 ∷ 0 ∷ 10 ∷ 0 ∷ []) 2 2 2
    ∷ refuses (plain_sizes 1 2 3 2 1 9) 6 (10 ∷ 0 ∷ []) 2 2 2
    ∷ refuses (plain_sizes 1 2 3 2 1 9) 6 (0 ∷ 0 ∷ 10 ∷ []) 2 2 3
    ∷ opens (plain_sizes 1 2 3 2 1 9) 6 (9 ∷ 9 ∷ 9 ∷ []) 2 2
    ∷ []

-- the sizes 256 2 3 2 1 9 with options: policy, coded, shelf pages, marked
abbrev pub with_options : ℕ → ℕ → ℕ → ℕ → Sizes
with_options policy coded shelf_pages marked = record {
  S = 256;
  K = 2;
  N = 3;
  P = 2;
  B = 1;
  W = 9;
  policy = policy;
  coded = coded;
  shelf_pages = shelf_pages;
  marked = marked;
}

-- coded, with pages of so many bytes
abbrev coded : ℕ → Sizes
coded s = record { S = s; K = 2; N = 3; P = 2; B = 1; W = 9; policy = 0; coded = 1; shelf_pages = 0; marked = 0 }

-- buffers for them, as long as a plain store's; with codes of 3 bytes and marks of 1 for each page
abbrev plainly : Buffers
plainly = lengths 1536 (0 ∷ 0 ∷ 0 ∷ []) 512 512

abbrev codes_and_marks : ℕ → ℕ → Buffers
codes_and_marks codes marks = all_lengths 1536 codes marks (0 ∷ 0 ∷ 0 ∷ []) 512 512

-- with these marks, without codes and with codes of 0, which no page of 255 has
abbrev marks_as : List ℕ → Buffers
marks_as marks = record {
  flash = replicate 1536 255;
  codes = [];
  marks = marks;
  wear = 0 ∷ 0 ∷ 0 ∷ [];
  pspace = replicate 512 0;
  bspace = replicate 512 0;
}

abbrev coded_marks_as : List ℕ → Buffers
coded_marks_as marks = record {
  flash = replicate 1536 255;
  codes = replicate 18 0;
  marks = marks;
  wear = 0 ∷ 0 ∷ 0 ∷ [];
  pspace = replicate 512 0;
  bspace = replicate 512 0;
}

-- The three policies open, on buffers as for LRU; another number is refused 1. Coded opens, at a multiple of 256 and lent 3 bytes of code
-- for each chunk, else it is refused 1 or 2. Up to 8 shelf pages open. Marked opens, lent a mark for each page, and answers how many blocks
-- have a mark that is not 0. A store without options is lent no codes and no marks, else it is refused 2, before the wear is looked at.
abbrev pub options : List Opens
options =
    -- LRU, FIFO, LFU, and two numbers that are no policy
    opens_lent (with_options 0 0 0 0) plainly
    ∷ opens_lent (with_options 1 0 0 0) plainly
    ∷ opens_lent (with_options 2 0 0 0) plainly
    ∷ refuses_lent (with_options 3 0 0 0) plainly 1
    ∷ refuses_lent (with_options 4294967295 0 0 0) plainly 1
    -- a policy, and buffers that fit no store
    ∷ refuses_lent (with_options 2 0 0 0) (lengths 0 [] 0 0) 2
    ∷ refuses_lent (with_options 3 0 0 0) (lengths 0 [] 0 0) 1
    -- a policy, and codes, without and with their buffer
    ∷ refuses_lent (with_options 1 1 0 0) plainly 2
    ∷ opens_lent (with_options 1 1 0 0) (codes_and_marks 18 0)
    -- coded, without codes, with one byte too few and one too many, with marks and as it should be; wear above W then
    ∷ refuses_lent (with_options 0 1 0 0) plainly 2
    ∷ refuses_lent (with_options 0 1 0 0) (codes_and_marks 17 0) 2
    ∷ refuses_lent (with_options 0 1 0 0) (codes_and_marks 19 0) 2
    ∷ refuses_lent (with_options 0 1 0 0) (codes_and_marks 18 6) 2
    ∷ opens_lent (with_options 0 1 0 0) (codes_and_marks 18 0)
    ∷ refuses_lent (with_options 0 1 0 0) (all_lengths 1536 18 0 (10 ∷ 0 ∷ 0 ∷ []) 512 512) 3
    -- two chunks a page; pages that are not whole chunks, with codes for the chunks there are; a number that is no choice
    ∷ opens_lent (coded 512) (all_lengths 3072 36 0 (0 ∷ 0 ∷ 0 ∷ []) 1024 1024)
    ∷ refuses_lent (coded 512) (all_lengths 3072 18 0 (0 ∷ 0 ∷ 0 ∷ []) 1024 1024) 2
    ∷ refuses_lent (coded 255) (all_lengths 1530 0 0 (0 ∷ 0 ∷ 0 ∷ []) 510 510) 1
    ∷ refuses_lent (coded 257) (all_lengths 1542 18 0 (0 ∷ 0 ∷ 0 ∷ []) 514 514) 1
    ∷ refuses_lent (coded 1) (all_lengths 6 0 0 (0 ∷ 0 ∷ 0 ∷ []) 2 2) 1
    ∷ refuses_lent (coded 128) (all_lengths 768 18 0 (0 ∷ 0 ∷ 0 ∷ []) 256 256) 1
    ∷ refuses_lent (with_options 0 2 0 0) plainly 1
    ∷ refuses_lent (with_options 0 2 0 0) (codes_and_marks 18 0) 1
    -- shelf pages: one, as many as there may be, one more, and the highest number
    ∷ opens_lent (with_options 0 0 1 0) plainly
    ∷ opens_lent (with_options 0 0 8 0) plainly
    ∷ refuses_lent (with_options 0 0 9 0) plainly 1
    ∷ refuses_lent (with_options 0 0 4294967295 0) plainly 1
    -- marked, without marks, with one too few and one too many, with codes too, and as it should be; wear above W then
    ∷ refuses_lent (with_options 0 0 0 1) plainly 2
    ∷ refuses_lent (with_options 0 0 0 1) (codes_and_marks 0 5) 2
    ∷ refuses_lent (with_options 0 0 0 1) (codes_and_marks 0 7) 2
    ∷ refuses_lent (with_options 0 0 0 1) (codes_and_marks 18 6) 2
    ∷ opens_lent (with_options 0 0 0 1) (codes_and_marks 0 6)
    ∷ refuses_lent (with_options 0 0 0 1) (all_lengths 1536 0 6 (10 ∷ 0 ∷ 0 ∷ []) 512 512) 3
    -- marked and coded, without codes, without marks and as it should be; all options at once; numbers that are no choice
    ∷ refuses_lent (with_options 0 1 0 1) (codes_and_marks 0 6) 2
    ∷ refuses_lent (with_options 0 1 0 1) (codes_and_marks 18 0) 2
    ∷ opens_lent (with_options 0 1 0 1) (codes_and_marks 18 6)
    ∷ opens_lent (with_options 2 1 8 1) (codes_and_marks 18 6)
    ∷ refuses_lent (with_options 0 0 0 2) (codes_and_marks 0 6) 1
    ∷ refuses_lent (with_options 0 0 0 4294967295) plainly 1
    -- an option that is no choice, and buffers that fit no store
    ∷ refuses_lent (with_options 0 0 0 2) (lengths 0 [] 0 0) 1
    -- torn blocks: a mark of 255 in one block; two in one block; one in each of two blocks; any mark but 0, in the last page; all pages; a
    -- block torn and unreadable codes beside it; a refused opening counts none
    ∷ opens_torn (with_options 0 0 0 1) (marks_as (0 ∷ 0 ∷ 255 ∷ 0 ∷ 0 ∷ 0 ∷ [])) 1
    ∷ opens_torn (with_options 0 0 0 1) (marks_as (0 ∷ 0 ∷ 255 ∷ 255 ∷ 0 ∷ 0 ∷ [])) 1
    ∷ opens_torn (with_options 0 0 0 1) (marks_as (0 ∷ 255 ∷ 0 ∷ 0 ∷ 255 ∷ 0 ∷ [])) 2
    ∷ opens_torn (with_options 0 0 0 1) (marks_as (0 ∷ 0 ∷ 0 ∷ 0 ∷ 0 ∷ 1 ∷ [])) 1
    ∷ opens_torn (with_options 0 0 0 1) (marks_as (255 ∷ 255 ∷ 254 ∷ 255 ∷ 255 ∷ 7 ∷ [])) 3
    ∷ opens_torn (with_options 0 1 0 1) (coded_marks_as (0 ∷ 0 ∷ 0 ∷ 128 ∷ 0 ∷ 0 ∷ [])) 1
    ∷ refuses_lent (with_options 0 0 0 0) (marks_as (0 ∷ 0 ∷ 255 ∷ 0 ∷ 0 ∷ 0 ∷ [])) 2
    -- no option, and codes of one page or of all, marks of one or of all
    ∷ refuses_lent (with_options 0 0 0 0) (codes_and_marks 3 0) 2
    ∷ refuses_lent (with_options 0 0 0 0) (codes_and_marks 18 0) 2
    ∷ refuses_lent (with_options 0 0 0 0) (codes_and_marks 0 1) 2
    ∷ refuses_lent (with_options 0 0 0 0) (codes_and_marks 0 6) 2
    ∷ refuses_lent (with_options 0 0 0 0) (all_lengths 1536 0 6 (10 ∷ 0 ∷ 0 ∷ []) 512 512) 2
    ∷ []

-- ---- calls with buffers of other lengths than at opening

-- a call on the record as an accepted opening leaves it, with other buffers; the page buffer then
pub record Lends : Type 0 where
  pub store : Store
  pub call : Call Page
  pub page : Page

-- sizes, the buffers, the call, and the page buffer afterwards
abbrev pub lends_all : Sizes → Buffers → Call Page → Page → Lends
lends_all sz u c page = record {
  store = record { cache = record { sizes = sz; directory = directory_of [] [] [] [] [] }; lent = u };
  call = c;
  page = page;
}

-- the lengths of the buffers as above
abbrev pub lends : Sizes → ℕ → List ℕ → ℕ → ℕ → Call Page → Page → Lends
lends sz flash wear pspace bspace c page = lends_all sz (lengths flash wear pspace bspace) c page

abbrev pub called : Lends → Result
called r = call store_format policy_choice r.store r.call

-- each is refused 2: the record and the buffers are handed back
abbrev pub called_listed : Lends → Result
called_listed r = record { answer = refused 2 vacant; mends = 0; store = r.store; page = r.page }

-- each buffer one too short and one too long; then one with a page number that is too high as well; then codes and marks, of one byte and
-- of as many as there are pages
abbrev pub lendings : List Lends
lendings =
    lends (plain_sizes 1 2 3 2 1 9) 5 (0 ∷ 0 ∷ 0 ∷ []) 2 2 (read 0 (7 ∷ [])) (7 ∷ [])
    ∷ lends (plain_sizes 1 2 3 2 1 9) 7 (0 ∷ 0 ∷ 0 ∷ []) 2 2 flush []
    ∷ lends (plain_sizes 1 2 3 2 1 9) 6 (0 ∷ 0 ∷ []) 2 2 step []
    ∷ lends (plain_sizes 1 2 3 2 1 9) 6 (0 ∷ 0 ∷ 0 ∷ 0 ∷ []) 2 2 (write 0 (7 ∷ [])) (7 ∷ [])
    ∷ lends (plain_sizes 1 2 3 2 1 9) 6 (0 ∷ 0 ∷ 0 ∷ []) 1 2 (part 0 0 (1 ∷ []) (7 ∷ [])) (7 ∷ [])
    ∷ lends (plain_sizes 1 2 3 2 1 9) 6 (0 ∷ 0 ∷ 0 ∷ []) 3 2 flush []
    ∷ lends (plain_sizes 1 2 3 2 1 9) 6 (0 ∷ 0 ∷ 0 ∷ []) 2 1 step []
    ∷ lends (plain_sizes 1 2 3 2 1 9) 6 (0 ∷ 0 ∷ 0 ∷ []) 2 3 (read 0 (7 ∷ [])) (7 ∷ [])
    ∷ lends (plain_sizes 1 2 3 2 1 9) 5 (0 ∷ 0 ∷ 0 ∷ []) 2 2 (write 6 (7 ∷ [])) (7 ∷ [])
    ∷ lends_all (plain_sizes 1 2 3 2 1 9) (all_lengths 6 1 0 (0 ∷ 0 ∷ 0 ∷ []) 2 2) (read 0 (7 ∷ [])) (7 ∷ [])
    ∷ lends_all (plain_sizes 1 2 3 2 1 9) (all_lengths 6 18 0 (0 ∷ 0 ∷ 0 ∷ []) 2 2) flush []
    ∷ lends_all (plain_sizes 1 2 3 2 1 9) (all_lengths 6 0 1 (0 ∷ 0 ∷ 0 ∷ []) 2 2) (write 0 (7 ∷ [])) (7 ∷ [])
    ∷ lends_all (plain_sizes 1 2 3 2 1 9) (all_lengths 6 0 6 (0 ∷ 0 ∷ 0 ∷ []) 2 2) step []
    ∷ []
