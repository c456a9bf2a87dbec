mod Parts
mod Verbs
