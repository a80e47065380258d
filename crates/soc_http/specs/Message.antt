-- The messages of a text: what stands at a message's edge, and which refusal comes first.
use Rattle.std.specs.Prelude.{◌≡◌, ℕ, ◌<◌, ◌≤◌, ◌⊎◌, List, [], ◌++◌, length, take, Option, None, Some, Result, Ok, Err, ⊤}
use Rattle.httparse.specs.Grammar.{RequestHead, ReadsRequest}
use Rattle.soc_http.specs.declared.head.Head.{Head}
use Rattle.soc_http.specs.declared.head.HeadError.{HeadError}
use Rattle.soc_http.specs.declared.head.HeadError.TheVariants.{BadHead, HeadTooLarge, NoLength, BodyTooLarge, CutShort, ReadFault, NoMemory}
use Rattle.soc_http.specs.Block.{IsBlock, HasNoBlock, HasFewLines, block_limit}
use Rattle.soc_http.specs.Request.{body_length, head_of}

-- ---- a head

-- the block is one whole request head, and this is what it says
pub record HeadOf (block : List ℕ) (head : Head) : Type 0 where
  pub request : RequestHead
  pub reads : ReadsRequest block request []
  pub framed : body_length request ≡ Ok head.length
  pub says : head ≡ head_of (length block) request head.length

-- the block is one whole request head, whose length is refused so
pub record RefusesLength (block : List ℕ) (error : HeadError) : Type 0 where
  pub request : RequestHead
  pub reads : ReadsRequest block request []
  pub refused : body_length request ≡ Err error

-- the block is no whole request head
abbrev pub HasNoHead : List ℕ → Type 0
HasNoHead block = (request : RequestHead) → ¬ (ReadsRequest block request [])

-- a block of few lines is refused so
abbrev pub RefusesLines : List ℕ → HeadError → Type 0
RefusesLines block BadHead = HasNoHead block ⊎ RefusesLength block BadHead
RefusesLines block NoLength = RefusesLength block NoLength
RefusesLines block BodyTooLarge = RefusesLength block BodyTooLarge
RefusesLines block HeadTooLarge = ⊥
RefusesLines block CutShort = ⊥
RefusesLines block ReadFault = ⊥
RefusesLines block NoMemory = ⊥

-- a block is refused so, the first refusal of all that apply
abbrev pub RefusesBlock : List ℕ → HeadError → Type 0
RefusesBlock block BadHead = HasFewLines block × RefusesLines block BadHead
RefusesBlock block NoLength = HasFewLines block × RefusesLines block NoLength
RefusesBlock block BodyTooLarge = HasFewLines block × RefusesLines block BodyTooLarge
RefusesBlock block HeadTooLarge = ¬ (HasFewLines block)
RefusesBlock block CutShort = ⊥
RefusesBlock block ReadFault = ⊥
RefusesBlock block NoMemory = ⊥

-- ---- a text at a message's edge

-- the text begins with a block that isn't too large, and rest stands behind it
pub record TakesBlock (text block rest : List ℕ) : Type 0 where
  pub whole : text ≡ block ++ rest
  pub shortest : IsBlock block
  pub within : length block ≤ block_limit

-- the text begins with this head, and rest stands behind its block
pub record TakesHead (text : List ℕ) (head : Head) (rest : List ℕ) : Type 0 where
  pub block : List ℕ
  pub taken : TakesBlock text block rest
  pub few : HasFewLines block
  pub says : HeadOf block head

-- the text begins with a block that is refused so
pub record BeginsRefused (text : List ℕ) (error : HeadError) : Type 0 where
  pub block : List ℕ
  pub rest : List ℕ
  pub taken : TakesBlock text block rest
  pub refused : RefusesBlock block error

-- the text ends before a block does
pub record EndsInHead (text : List ℕ) : Type 0 where
  pub begun : 0 < length text
  pub within : length text ≤ block_limit
  pub unfinished : HasNoBlock text

-- no block ends in the first bytes of the text, though more follow
pub record HasNoBlockInLimit (text : List ℕ) : Type 0 where
  pub longer : block_limit < length text
  pub unfinished : HasNoBlock (take block_limit text)

-- the head at the text's front is refused so
abbrev pub RefusesHead : List ℕ → HeadError → Type 0
RefusesHead text CutShort = EndsInHead text
RefusesHead text HeadTooLarge = HasNoBlockInLimit text ⊎ BeginsRefused text HeadTooLarge
RefusesHead text BadHead = BeginsRefused text BadHead
RefusesHead text NoLength = BeginsRefused text NoLength
RefusesHead text BodyTooLarge = BeginsRefused text BodyTooLarge
RefusesHead text ReadFault = ⊥
RefusesHead text NoMemory = ⊥

-- a refusal that the text gives; a read fault and want of memory aren't the text's
abbrev pub ByText : HeadError → Type 0 → Type 0
ByText ReadFault P = ⊤
ByText NoMemory P = ⊤
ByText BadHead P = P
ByText HeadTooLarge P = P
ByText NoLength P = P
ByText BodyTooLarge P = P
ByText CutShort P = P

-- a refusal that a block gives, where memory doesn't want
abbrev pub OrNoMemory : HeadError → Type 0 → Type 0
OrNoMemory NoMemory P = ⊤
OrNoMemory ReadFault P = P
OrNoMemory BadHead P = P
OrNoMemory HeadTooLarge P = P
OrNoMemory NoLength P = P
OrNoMemory BodyTooLarge P = P
OrNoMemory CutShort P = P

-- what reading a head from the text answers, and what is left behind it: a refusal takes nothing
abbrev pub ReadsHead : List ℕ → Result (Option Head) HeadError → List ℕ → Type 0
ReadsHead text (Ok None) rest = (text ≡ []) × (rest ≡ [])
ReadsHead text (Ok (Some head)) rest = TakesHead text head rest
ReadsHead text (Err error) rest = (rest ≡ text) × ByText error (RefusesHead text error)

-- ---- whole messages

-- a head and its body
pub record Message : Type 0 where
  pub head : Head
  pub body : List ℕ

-- the text begins with this message, and rest stands behind it
pub record TakesMessage (text : List ℕ) (message : Message) (rest : List ℕ) : Type 0 where
  pub head : TakesHead text message.head (message.body ++ rest)
  pub whole : length message.body ≡ message.head.length

-- the text begins with a head, and ends before the body does
pub record EndsInBody (text : List ℕ) : Type 0 where
  pub head : Head
  pub rest : List ℕ
  pub taken : TakesHead text head rest
  pub short : length rest < head.length

-- the message at the text's front is refused so
abbrev pub RefusesMessage : List ℕ → HeadError → Type 0
RefusesMessage text CutShort = EndsInHead text ⊎ EndsInBody text
RefusesMessage text BadHead = RefusesHead text BadHead
RefusesMessage text HeadTooLarge = RefusesHead text HeadTooLarge
RefusesMessage text NoLength = RefusesHead text NoLength
RefusesMessage text BodyTooLarge = RefusesHead text BodyTooLarge
RefusesMessage text ReadFault = ⊥
RefusesMessage text NoMemory = ⊥
