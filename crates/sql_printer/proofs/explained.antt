mod Explained
mod OneMoreTable
mod ReadBack
